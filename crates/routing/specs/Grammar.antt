-- What a line of a directory file and a query are made of (docs/ROUTING.md), as a grammar: no reader stands in it.
-- Assumes nothing.
use Rattle.std.specs.Prelude.{ℕ, ◌<◌, ◌≡◌, List, [], ◌∷◌, ◌++◌, false, ℤ}
use Rattle.digits.specs.Digits.{IsField, value_of}
use Rattle.streams.specs.Gathering.{Kept}
use Rattle.asking.specs.Grammar as asking

-- ---- a directory file
-- a space, a tab or a carriage return
pub data Blank : ℕ → Type 0 where
  space : Blank 32
  tab : Blank 9
  carriage_return : Blank 13

-- any number of them
pub data Blanks : List ℕ → Type 0 where
  none : Blanks []
  more : {b : ℕ} {l : List ℕ} → Blank b → Blanks l → Blanks (b ∷ l)

-- where a line is over: nothing, or `#` and any bytes
pub data Over : List ℕ → Type 0 where
  nothing : Over []
  comment : {l : List ℕ} → Over (35 ∷ l)

-- one or more digits, worth less than 2^63; zeros in front are fine
pub data Numeral : List ℕ → ℕ → Type 0 where
  numeral : {d : List ℕ} → IsField d → value_of d < 9223372036854775808 → Numeral d (value_of d)

-- a line that says nothing
pub data SaysNothing : (line : List ℕ) → Type 0 where
  says_nothing : {a t : List ℕ} → Blanks a → Over t → SaysNothing (a ++ t)

-- a line of two numbers: blanks may stand around them, and one at least stands between them
pub data SaysTwo : (line : List ℕ) → (first second : ℕ) → Type 0 where
  says_two : {a d b e c t : List ℕ} {blank m n : ℕ}
      → Blanks a → Numeral d m → Blank blank → Blanks b → Numeral e n → Blanks c → Over t
      → SaysTwo (a ++ (d ++ (blank ∷ b ++ (e ++ (c ++ t))))) m n

-- ---- a query
-- an optional `-` and digits, within 64 bits signed; one space; the label, any bytes, perhaps none
pub data Asks : (line : List ℕ) → (length : ℤ) → (label : List ℕ) → Type 0 where
  asks : {d t : List ℕ} {z : ℤ} → asking.Numeral d z → Asks (d ++ (32 ∷ t)) z t

-- ---- a whole directory file, line by line, each kept whole
-- behind the rate and the reel a shard a line, or nothing
pub data SpellsShards : (lines : List Kept) → (firsts ends : List ℕ) → Type 0 where
  no_shard : SpellsShards [] [] []
  empty_line : {k : Kept} {lines : List Kept} {firsts ends : List ℕ}
      → k.over ≡ false → SaysNothing k.bytes → SpellsShards lines firsts ends → SpellsShards (k ∷ lines) firsts ends
  shard_line : {k : Kept} {lines : List Kept} {first end : ℕ} {firsts ends : List ℕ}
      → k.over ≡ false → SaysTwo k.bytes first end → SpellsShards lines firsts ends → SpellsShards (k ∷ lines) (first ∷ firsts) (end ∷ ends)

-- the first two numbers are the rate and the reel
pub data Spells : (lines : List Kept) → (rate reel : ℕ) → (firsts ends : List ℕ) → Type 0 where
  front_line : {k : Kept} {lines : List Kept} {rate reel : ℕ} {firsts ends : List ℕ}
      → k.over ≡ false → SaysNothing k.bytes → Spells lines rate reel firsts ends → Spells (k ∷ lines) rate reel firsts ends
  head_line : {k : Kept} {lines : List Kept} {rate reel : ℕ} {firsts ends : List ℕ}
      → k.over ≡ false → SaysTwo k.bytes rate reel → SpellsShards lines firsts ends → Spells (k ∷ lines) rate reel firsts ends
