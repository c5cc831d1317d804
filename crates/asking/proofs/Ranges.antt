-- The range at a place of a line, and the loop of `ranges`: what is wanted from here is what is wanted from the start.
-- Assumes nothing.
use Rattle.asking.proofs.Same.{range-first, range-end, range-next}
use Rattle.std.specs.Prelude.{None, Option, Some}
use Rattle.asking.specs.Numbers.{some_word}
use Rattle.asking.specs.ShardWords.{some_range}
use Prim.Native.Nat.{ℕ, zero, suc, ◌+◌, ◌-◌, ◌≤◌, ◌<◌, min}
use mathlib.Core.Path.{ap₂, ◌≡◌, refl, sym, ap, ◌∙◌}
use mathlib.Core.List.{List, []}
use mathlib.Core.Bool.{Bool, true, false, cond, ◌&&◌, and-eq-true_iff}
use native.Mathlib.Omega.{arith}
use lib.Dec.{leb}
use lib.IntN.{ℤ, pos}
use lib.ListN.{length, drop, set, length-append, length-drop, length-set}
use lib.Seq.{drop-drop}
use borrow.Author.Tests.{lt-leb, le-leb, leb-true, leb-false}
use Rattle.numbers.specs.Sign.{up_from}
use Rattle.digits.specs.Digits.{is_byte, first_is}
use Rattle.asking.specs.declared.values.Word.{Word}
use Rattle.asking.specs.declared.sharded.Ranged.{Ranged}
use Rattle.asking.specs.Numbers.{signed_at}
use Rattle.asking.specs.Table.{is_over}
use Rattle.asking.specs.ShardWords.{number_then, range_at, sharding, ranges_from, ranges_of, is_none, spelled_of, shards_at, shards_of}
use Rattle.asking.specs.Grammar.{Numeral, plain, minus}
use Rattle.asking.proofs.NumberLaws.{stands-within}
use Rattle.asking.proofs.Numerals.{signed-told}

-- ---- the range at a place
module _ (line : List ℕ) (at : ℕ) where
  pub range-no-first : signed_at at (drop at line) ≡ None → None ≡ range_at line at
  unfolding range_at
  range-no-first e = rw e

  module _ (y : ℤ) (between : ℕ) (e : signed_at at (drop at line) ≡ some_word y between) where
    pub range-apart : first_is (is_byte 45) (drop between line) ≡ false → None ≡ range_at line at
    unfolding range_at
    range-apart f = rw (e, f)

    -- and by the place that its end was looked for at
    module _ (f : first_is (is_byte 45) (drop between line) ≡ true) (from : ℕ) (w : Option Word) (g : w ≡ signed_at from (drop from line)) where
      pub range-no-end : w ≡ None → from ≡ between + 1 → None ≡ range_at line at
      unfolding range_at
      range-no-end h i = rw (e, f, ← i, ← g, h)

      pub range-some : (z : ℤ) (next : ℕ) → w ≡ some_word z next → from ≡ between + 1 → some_range y z next ≡ range_at line at
      unfolding range_at
      range-some z next h i = rw (e, f, ← i, ← g, h)

-- ---- what it tells
pub record RangeTold (line : List ℕ) (at : ℕ) (y z : ℤ) (next : ℕ) : Type 0 where
  pub between : ℕ
  pub first : signed_at at (drop at line) ≡ some_word y between
  pub dash : first_is (is_byte 45) (drop between line) ≡ true
  pub end : signed_at (between + 1) (drop (between + 1) line) ≡ some_word z next

module _ (line : List ℕ) (at : ℕ) (y z : ℤ) (next : ℕ) where
  pub range-told : range_at line at ≡ some_range y z next → RangeTold line at y z next
  unfolding range_at
  range-told e = by (signed_at at (drop at line)) refl e
    where
      last : (a : ℤ) (between : ℕ) → signed_at at (drop at line) ≡ some_word a between → first_is (is_byte 45) (drop between line) ≡ true
          → (v : Option Word) → signed_at (between + 1) (drop (between + 1) line) ≡ v → number_then v (λ b n. some_range a b n) ≡ some_range y z next
          → RangeTold line at y z next
      last a between p q (Some w) r f =
          record {
            between = between;
            first = p ∙ ap (λ x. some_word x between) (range-first f);
            dash = q;
            end = r ∙ ap₂ some_word (range-end f) (range-next f);
          }
      last a between p q None r f = let x : ◌≡◌ {A = ℕ} 0 1 = cc in absurd (omega arith)

      dashed : (a : ℤ) (between : ℕ) → signed_at at (drop at line) ≡ some_word a between → (t : Bool) → first_is (is_byte 45) (drop between line) ≡ t
          → cond t (number_then (signed_at (between + 1) (drop (between + 1) line)) (λ b n. some_range a b n)) None ≡ some_range y z next
          → RangeTold line at y z next
      dashed a between p true q f = last a between p q (signed_at (between + 1) (drop (between + 1) line)) refl f
      dashed a between p false q f = let x : ◌≡◌ {A = ℕ} 0 1 = cc in absurd (omega arith)

      by : (w : Option Word) → signed_at at (drop at line) ≡ w
          → number_then w (λ a between. cond (first_is (is_byte 45) (drop between line))
          (number_then (signed_at (between + 1) (drop (between + 1) line)) (λ b n. some_range a b n)) None) ≡ some_range y z next
          → RangeTold line at y z next
      by (Some w) p f = dashed w.number w.next p (first_is (is_byte 45) (drop w.next line)) refl f
      by None p f = let x : ◌≡◌ {A = ℕ} 0 1 = cc in absurd (omega arith)

pub numeral-some : {d : List ℕ} {z : ℤ} → Numeral d z → 0 < length d
numeral-some (plain f w) = f.some
numeral-some (minus f w) = omega arith

-- a number that stands at a place ends behind it, within the line
signed-past : (line : List ℕ) (at : ℕ) (z : ℤ) (next : ℕ) → signed_at at (drop at line) ≡ some_word z next → (at < next) × (next ≤ length line)
signed-past line at z next e =
    let t = signed-told at (drop at line) z next e in
    let some = numeral-some t.numeral in
    let long : length (drop at line) ≡ length t.digits + length t.rest = ap length t.is ∙ length-append t.digits t.rest in
    (omega (arith, some, t.past), omega (arith, some, t.past, long, length-drop at line))

-- and so does a range
pub range-past : (line : List ℕ) (at : ℕ) (y z : ℤ) (next : ℕ) → range_at line at ≡ some_range y z next → (at < next) × (next ≤ length line)
range-past line at y z next e =
    let t = range-told line at y z next e in
    let first = signed-past line at y t.between t.first in
    let end = signed-past line (t.between + 1) z next t.end in
    (omega (arith, first, end), end.1)

-- ---- the loop of `ranges`: n ranges were read
pub record Ranging (line : List ℕ) (from : ℕ) (firsts₀ ends₀ firsts ends : List ℕ) (at n : ℕ) : Type 0 where
  pub k : ℕ
  pub enough : length line ≤ at + k
  pub few : n ≤ at
  pub firsts_long : length firsts ≡ length firsts₀
  pub ends_long : length ends ≡ length ends₀
  pub same : ranges_of line from firsts₀ ends₀ ≡ ranges_from k line at n firsts ends

pub ranging-start : (line : List ℕ) (from : ℕ) (firsts ends : List ℕ) → Ranging line from firsts ends firsts ends from 0
ranging-start line from firsts ends = record {
  k = length line;
  enough = omega arith;
  few = omega arith;
  firsts_long = refl;
  ends_long = refl;
  same = refl;
}

module _ (line : List ℕ) (from : ℕ) (firsts₀ ends₀ firsts ends : List ℕ) (at n : ℕ) (s : Ranging line from firsts₀ ends₀ firsts ends at n) where
  -- what the return shows
  abbrev pub Ends : Ranged → (firsts ends : List ℕ) → Type 0
  Ends r f e = let x = ranges_of line from firsts₀ ends₀ in (r ≡ x.ranged) × ((f ≡ x.firsts) × (e ≡ x.ends))

  -- no range stands there
  pub ranging-none : range_at line at ≡ None → Ends (record { well = false; count = n; next = at }) firsts ends
  unfolding ranges_from
  ranging-none e =
      let q = s.same ∙ by s.k in
      (sym (ap (λ z. z.ranged) q), (sym (ap (λ z. z.firsts) q), sym (ap (λ z. z.ends) q)))
    where
      by : (k : ℕ) → ranges_from k line at n firsts ends ≡ sharding false n at firsts ends
      by zero = refl
      by (suc k) = rw e

  module _ (y z : ℤ) (next : ℕ) (e : range_at line at ≡ some_range y z next)
      (f g : List ℕ) (p : f ≡ set firsts n (up_from y)) (q : g ≡ set ends n (up_from z)) where
    -- a range, and no `,` behind it
    pub ranging-over : first_is (is_byte 44) (drop next line) ≡ false → (over : Bool) → over ≡ is_over (drop next line)
        → Ends (record { well = over; count = n + 1; next = next }) f g
    unfolding ranges_from
    ranging-over c over o =
        let x = s.same ∙ by s.k s.enough in
        (sym (ap (λ z. z.ranged) x), (sym (ap (λ z. z.firsts) x), sym (ap (λ z. z.ends) x)))
      where
        by : (k : ℕ) → length line ≤ at + k → ranges_from k line at n firsts ends ≡ sharding over (n + 1) next f g
        by zero l = absurd (omega (arith, range-past line at y z next e))
        by (suc k) l = rw (e, c, o, p, q)

    -- and with one
    pub ranging-turn : first_is (is_byte 44) (drop next line) ≡ true → Ranging line from firsts₀ ends₀ f g (next + 1) (n + 1)
    unfolding ranges_from
    ranging-turn c = record {
      k = s.k - 1;
      enough = omega (arith, range-past line at y z next e, s.enough);
      few = omega (arith, range-past line at y z next e, s.few);
      firsts_long = ap length p ∙ length-set firsts n (up_from y) ∙ s.firsts_long;
      ends_long = ap length q ∙ length-set ends n (up_from z) ∙ s.ends_long;
      same = s.same ∙ on s.k s.enough;
    }
      where
        on : (k : ℕ) → length line ≤ at + k → ranges_from k line at n firsts ends ≡ ranges_from (k - 1) line (next + 1) (n + 1) f g
        on zero l = absurd (omega (arith, range-past line at y z next e))
        on (suc k) l = let m : suc k - 1 ≡ k = omega arith in rw (e, c, m, p, q)

-- ---- `-` alone
pub none_apart : (line : List ℕ) (at : ℕ) → first_is (is_byte 45) (drop at line) ≡ false → false ≡ is_none (drop at line)
unfolding is_none
none_apart line at e = rw e

pub none-by : (line : List ℕ) (at : ℕ) → first_is (is_byte 45) (drop at line) ≡ true → is_over (drop (at + 1) line) ≡ is_none (drop at line)
unfolding is_none
none-by line at e = rw (e, drop-drop 1 at line)

pub none_within : (line : List ℕ) (at : ℕ) → is_none (drop at line) ≡ true → at < length line
unfolding is_none
none_within line at e = stands-within line at 45 ((and-eq-true_iff (first_is (is_byte 45) (drop at line)) _).0 e).0

-- ---- room in both lists
pub hold-both : (count a b : ℕ) → leb count (min a b) ≡ (leb count a && leb count b)
hold-both count a b = by (leb count a) refl (leb count b) refl
  where
    by : (s : Bool) → leb count a ≡ s → (t : Bool) → leb count b ≡ t → leb count (min a b) ≡ (s && t)
    by true p true q = le-leb count (min a b) (omega (arith, leb-true count a p, leb-true count b q))
    by true p false q = lt-leb count (min a b) (omega (arith, leb-false count b q))
    by false p t q = lt-leb count (min a b) (omega (arith, leb-false count a p))

-- ---- what a word spells
module _ (line : List ℕ) (at : ℕ) (firsts ends : List ℕ) where
  pub spelled_none : is_none (drop at line) ≡ true → sharding true 0 (at + 1) firsts ends ≡ spelled_of line at firsts ends
  unfolding spelled_of
  spelled_none e = rw e

  pub spelled-some : is_none (drop at line) ≡ false → ranges_of line at firsts ends ≡ spelled_of line at firsts ends
  unfolding spelled_of
  spelled-some e = rw e

  -- and whether all of it is listed
  module _ (r : Ranged) (e : r ≡ (spelled_of line at firsts ends).ranged) where
    pub shards-ill : r.well ≡ false → record { all = false; count = r.count } ≡ (shards_of line at firsts ends).listed
    unfolding shards_of
    shards-ill f = rw (← e, f)

    pub shards-well : r.well ≡ true → (t : Bool) → t ≡ (leb r.count (length firsts) && leb r.count (length ends))
        → record { all = t; count = r.count } ≡ (shards_of line at firsts ends).listed
    unfolding shards_of
    shards-well f t g = rw (← e, f, g)

-- ---- a word of shards behind one space
module _ (line : List ℕ) (at : ℕ) where
  pub shards-apart : first_is (is_byte 32) (drop at line) ≡ false → None ≡ shards_at line at
  unfolding shards_at
  shards-apart e = rw e

  module _ (e : first_is (is_byte 32) (drop at line) ≡ true) (r : Ranged) (f : r ≡ (spelled_of line (at + 1) [] []).ranged) where
    pub shards-not : r.well ≡ false → None ≡ shards_at line at
    unfolding shards_at
    shards-not g = rw (e, ← f, g)

    pub shards-place : r.well ≡ true → (z : ℤ) → z ≡ pos (at + 1) → some_word z r.next ≡ shards_at line at
    unfolding shards_at
    shards-place g z h = rw (e, ← f, g, h)
