-- A word compared with a row's byte by byte: neither has a space, so that a word ends where the other has one.
-- Assumes nothing.
use Prim.Native.Nat.{ℕ, zero, suc, ◌+◌, ◌≤◌, ◌<◌}
use mathlib.Core.Path.{◌≡◌, refl, sym, ap, ◌∙◌}
use mathlib.Core.List.{List, [], ◌∷◌}
use mathlib.Core.Bool.{Bool, true, false, not, ◌&&◌, and-eq-true_iff}
use native.Mathlib.Omega.{arith}
use native.Mathlib.Numerals.{add-one}
use lib.ListN.{length, drop, get_or, drop_of_length-le}
use lib.Seq.{drop-cons}
use lib.Dec.{eqb, leb}
use borrow.Author.Tests.{eq-eqb, ne_eqb, leb-true, not-true}
use Rattle.laws.specs.Every.{at_every}
use Rattle.asking.specs.Table.{Row, row, rows, row_count, row_at, is_plain, same, is_named, row_from, row_named}

-- ---- words without a space
pub plain_at : (w : List ℕ) → is_plain w ≡ true → (i : ℕ) → i < length w → get_or w i 0 ≡ 32 → ⊥
unfolding is_plain
plain_at [] p i h e = omega arith
plain_at (b ∷ w) p zero h e =
    let z : ◌≡◌ {A = Bool} true false = sym (eq-eqb b 32 e) ∙ not-true (eqb b 32) ((and-eq-true_iff (not (eqb b 32)) (is_plain w)).0 p).0 in
    let y : ◌≡◌ {A = ℕ} 0 1 = cc in
    omega arith
plain_at (b ∷ w) p (suc i) h e = plain_at w ((and-eq-true_iff (not (eqb b 32)) (is_plain w)).0 p).1 i (omega arith) e

-- ---- the same bytes
same_length : (w n : List ℕ) → same w n ≡ true → length w ≡ length n
unfolding same
same_length [] [] e = refl
same_length [] (b ∷ n) e = let z : ◌≡◌ {A = ℕ} 0 1 = cc in omega arith
same_length (a ∷ w) [] e = let z : ◌≡◌ {A = ℕ} 0 1 = cc in omega arith
same_length (a ∷ w) (b ∷ n) e = ap suc (same_length w n ((and-eq-true_iff (eqb a b) (same w n)).0 e).1)

pub same-longer : (w n : List ℕ) → length n < length w → same w n ≡ false
same-longer w n h = by (same w n) refl
  where
    by : (t : Bool) → same w n ≡ t → same w n ≡ false
    by true e = absurd (omega (arith, same_length w n e))
    by false e = e

same-cons : (a b : ℕ) (w n : List ℕ) → a ≡ b → same (a ∷ w) (b ∷ n) ≡ same w n
unfolding same
same-cons a b w n e = rw (eq-eqb a b e)

same-other : (a : ℕ) (w n : List ℕ) (i : ℕ) → (a ≡ get_or n i 32 → ⊥) → same (a ∷ w) (drop i n) ≡ false
unfolding same
same-other a w [] zero h = refl
same-other a w [] (suc i) h = refl
same-other a w (b ∷ n) zero h = rw (ne_eqb a b h)
same-other a w (b ∷ n) (suc i) h = same-other a w n i h

same_ended : (n : List ℕ) (i : ℕ) → is_plain n ≡ true → same [] (drop i n) ≡ eqb (get_or n i 32) 32
unfolding same is_plain
same_ended [] zero p = refl
same_ended [] (suc i) p = refl
same_ended (b ∷ n) zero p = sym (not-true (eqb b 32) ((and-eq-true_iff (not (eqb b 32)) (is_plain n)).0 p).0)
same_ended (b ∷ n) (suc i) p = same_ended n i ((and-eq-true_iff (not (eqb b 32)) (is_plain n)).0 p).1

-- a byte of the other, where it is no space
inside : (n : List ℕ) (i : ℕ) → (get_or n i 32 ≡ 32 → ⊥) → i < length n
inside [] i h = absurd (h refl)
inside (b ∷ n) zero h = omega arith
inside (b ∷ n) (suc i) h = omega (arith, inside n i h)

default : (n : List ℕ) (i : ℕ) → i < length n → get_or n i 32 ≡ get_or n i 0
default [] i h = absurd (omega arith)
default (b ∷ n) zero h = refl
default (b ∷ n) (suc i) h = default n i (omega arith)

-- ---- the loop of `is_named`: i bytes are the same
pub record Comparing (w n : List ℕ) (i : ℕ) : Type 0 where
  pub within : i ≤ length w
  pub same_from : same w n ≡ same (drop i w) (drop i n)

module _ (w n : List ℕ) (i : ℕ) (s : Comparing w n i) where
  pub comparing-turn : is_plain w ≡ true → i < length w → get_or w i 0 ≡ get_or n i 32 → Comparing w n (i + 1)
  comparing-turn p h e =
      let j : i < length n = inside n i (λ z. plain_at w p i h (e ∙ z)) in
      record {
        within = omega arith;
        same_from = s.same_from ∙ rw (add-one, drop-cons w i 0 h, drop-cons n i 0 j) (same-cons _ _ _ _ (e ∙ default n i j));
      }

  pub comparing-other : i < length w → (get_or w i 0 ≡ get_or n i 32 → ⊥) → same w n ≡ false
  comparing-other h e = s.same_from ∙ rw (drop-cons w i 0 h) (same-other (get_or w i 0) _ n i e)

  pub comparing-done : is_plain n ≡ true → length w ≤ i → same w n ≡ eqb (get_or n i 32) 32
  comparing-done p h = s.same_from ∙ rw (drop_of_length-le w {i = i} h) (same_ended n i p)

-- ---- the words of the table have no space, and 15 bytes at most
is_name : Row → Bool
is_name r = is_plain r.name && leb (length r.name) 15

module _ (n : ℕ) (h : n < row_count) where
  name-is : is_name (row_at n) ≡ true
  unfolding rows is_name is_plain
  name-is = at_every is_name rows (row "" "") refl n h

  pub name-plain : is_plain (row_at n).name ≡ true
  unfolding is_name
  name-plain = ((and-eq-true_iff (is_plain (row_at n).name) _).0 name-is).0

  pub name-short : length (row_at n).name ≤ 15
  unfolding is_name
  name-short = leb-true (length (row_at n).name) 15 ((and-eq-true_iff (is_plain (row_at n).name) _).0 name-is).1

-- ---- the loop of `row_named`: no row below i has the word
pub record Seeking (w : List ℕ) (i : ℕ) : Type 0 where
  pub within : i ≤ row_count
  pub same_from : row_named w ≡ row_from i (drop i rows) w

module _ (w : List ℕ) (i : ℕ) (s : Seeking w i) (h : i < row_count) where
  row_here : drop i rows ≡ row_at i ∷ drop (suc i) rows
  unfolding rows
  row_here = drop-cons rows i (row "" "") h

  pub seeking-found : is_named i w ≡ true → i ≡ row_named w
  unfolding row_from
  seeking-found e = sym (s.same_from ∙ rw (row_here, e))

  pub seeking-turn : is_named i w ≡ false → Seeking w (i + 1)
  unfolding row_from
  seeking-turn e = record { within = omega arith; same_from = s.same_from ∙ rw (row_here, e, add-one) }

pub seeking-none : (w : List ℕ) (i : ℕ) → Seeking w i → row_count ≤ i → i ≡ row_named w
unfolding row_from rows
seeking-none w i s h = sym (s.same_from ∙ rw (drop_of_length-le rows {i = i} h))
