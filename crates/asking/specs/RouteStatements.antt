-- Shards are listed as a word spells them, and only so; `route` is asked so, and only so. Proofs: proofs/Statements.antt.
-- Assumes nothing.
use Rattle.std.specs.Prelude.{ℕ, ◌+◌, ◌*◌, ◌≤◌, ◌≡◌, List, [], ◌∷◌, ◌++◌, map, true, false, ℤ, pos, length, drop}
use Rattle.numbers.specs.Sign.{up_from}
use Rattle.laws.specs.Spelt.{spelt}
use Rattle.asking.specs.declared.words.Asked.{Asked}
use Rattle.asking.specs.Table.{is_over}
use Rattle.asking.specs.Asked.{asked, value, no_value, asked_of}
use Rattle.asking.specs.ShardWords.{ShardListing, shards_of}
use Rattle.asking.specs.Grammar.{Numeral, ShardsText}

-- ---- the shards of a word
-- a word that spells these shards begins at a place of the line, and a space or the line's end stands behind it
pub record SpeltAt (line : List ℕ) (at : ℕ) (firsts ends : List ℤ) : Type 0 where
  pub word : List ℕ
  pub rest : List ℕ
  pub is : drop at line ≡ word ++ rest
  pub over : is_over rest ≡ true
  pub spells : ShardsText word firsts ends

-- all of them, at the two lists' fronts, each as a number from 0 on (one below 0 as 2^64 - 1); what stands behind them stays
abbrev pub listed_shards : (ys zs : List ℤ) (firsts ends : List ℕ) → ShardListing
listed_shards ys zs firsts ends = record {
  firsts = map up_from ys ++ drop (length ys) firsts;
  ends = map up_from zs ++ drop (length zs) ends;
  listed = record { all = true; count = length ys };
}

-- some shards are spelt there, both lists have room for them, and they are listed so
pub record AreShards (line : List ℕ) (at : ℕ) (firsts ends : List ℕ) : Type 0 where
  pub ys : List ℤ
  pub zs : List ℤ
  pub spelt_at : SpeltAt line at ys zs
  pub firsts_room : length ys ≤ length firsts
  pub ends_room : length ys ≤ length ends
  pub is : shards_of line at firsts ends ≡ listed_shards ys zs firsts ends

-- shards that a word spells, for which both lists have room, are listed, all of them, however they are spelt; and where all is listed, such
-- a word stands there, and the lists' fronts are its numbers, as numbers from 0 on
abbrev pub ShardsExactly : Type 0
ShardsExactly =
    (line : List ℕ) (at : ℕ) (firsts ends : List ℕ)
    → let x = shards_of line at firsts ends in
    ((ys zs : List ℤ) → SpeltAt line at ys zs → length ys ≤ length firsts → length ys ≤ length ends → x ≡ listed_shards ys zs firsts ends)
    × (x.listed.all ≡ true → AreShards line at firsts ends)

-- a word spells one list of shards
abbrev pub OneListSpelt : Type 0
OneListSpelt =
    (word : List ℕ) (ys zs us vs : List ℤ) → ShardsText word ys zs → ShardsText word us vs → (ys ≡ us) × (zs ≡ vs)

-- a word of n bytes has at most a fourth of n + 1 ranges: lists of 2048 have room for those of any line of 8192 bytes
abbrev pub FewShards : Type 0
FewShards = (word : List ℕ) (ys zs : List ℤ) → ShardsText word ys zs → (length ys ≡ length zs) × (4 * length ys ≤ length word + 1)

-- ---- a line that asks `route`
-- RATE, SHARDS and LENGTH, each behind one space, and the TEXT, which is empty where the line ends; the shards begin at a place of the line
pub data RouteLine : (line : List ℕ) → (rate : ℤ) → (place : ℕ) → (firsts ends : List ℤ) → (frames : ℤ) → (text : List ℕ) → Type 0 where
  no_text : {d w e : List ℕ} {y z : ℤ} {ys zs : List ℤ}
      → Numeral d y → ShardsText w ys zs → Numeral e z
      → RouteLine (spelt "route " ++ (d ++ (32 ∷ w ++ (32 ∷ e)))) y (7 + length d) ys zs z []
  text : {d w e t : List ℕ} {y z : ℤ} {ys zs : List ℤ}
      → Numeral d y → ShardsText w ys zs → Numeral e z
      → RouteLine (spelt "route " ++ (d ++ (32 ∷ w ++ (32 ∷ e ++ (32 ∷ t))))) y (7 + length d) ys zs z t

-- what such a line asks
abbrev pub asked_route : (rate : ℤ) (place : ℕ) (frames : ℤ) (begins : ℕ) → Asked
asked_route y place z begins = asked 28 (value y false ∷ value (pos place) false ∷ value z false ∷ no_value ∷ no_value ∷ []) begins

pub record IsRoute (line : List ℕ) : Type 0 where
  pub rate : ℤ
  pub place : ℕ
  pub firsts : List ℤ
  pub ends : List ℤ
  pub frames : ℤ
  pub text : List ℕ
  pub begins : ℕ
  pub made : RouteLine line rate place firsts ends frames text
  pub text_at : begins + length text ≡ length line
  pub is : asked_of line ≡ asked_route rate place frames begins

-- a line that is made so asks `route`, with its rate, the place of its shards, its length and where its text begins, and at that place stands a
-- word that spells its shards; and a line that asks `route` is made so
abbrev pub RouteUnderstood : Type 0
RouteUnderstood =
    (line : List ℕ)
    → ((rate : ℤ) (place : ℕ) (firsts ends : List ℤ) (frames : ℤ) (text : List ℕ) (begins : ℕ)
    → RouteLine line rate place firsts ends frames text → begins + length text ≡ length line
    → (asked_of line ≡ asked_route rate place frames begins) × SpeltAt line place firsts ends)
    × ((asked_of line).row ≡ 28 → IsRoute line)
