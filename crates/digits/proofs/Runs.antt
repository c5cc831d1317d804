-- The run in front of a text is its digits up to the first byte that is none.
-- Assumes nothing.
use Prim.Native.Nat.{ℕ, suc, ◌^◌, ◌≤◌, ◌<◌}
use mathlib.Core.Path.{◌≡◌, refl, sym, ap, ◌∙◌}
use mathlib.Core.List.{List, [], ◌∷◌, ◌++◌}
use mathlib.Core.Bool.{Bool, true, false, cond}
use native.Mathlib.Omega.{arith}
use native.Mathlib.Nat.{pow-le-pow_right}
use lib.ListN.{length, take, drop, length-take, take-append-drop}
use lib.Seq.{take_at, drop_at, take_all}
use Rattle.digits.specs.Digits.{is_digit, all_digits, IsField, value_of, field_value, digit_first, span, leading, run_of}
use Rattle.digits.proofs.Values.{all_cons, all_head, all_tail, all_take, value-below}

-- ---- a byte at a time
pub span-cons : (b : ℕ) (l : List ℕ) → is_digit b ≡ true → span (b ∷ l) ≡ suc (span l)
unfolding span
span-cons b l e = rw e

pub span-no : (l : List ℕ) → digit_first l ≡ false → span l ≡ 0
unfolding span
span-no [] e = refl
span-no (b ∷ l) e = rw e

-- ---- what a field is read as
-- with nine digits or fewer, its value
pub field-value : (d : List ℕ) → length d ≤ 9 → field_value d ≡ value_of d
field-value d h = ap value_of (take_all 9 d h)

-- and always below a thousand million
pub field_below : (d : List ℕ) → all_digits d ≡ true → field_value d < 10 ^ 9
field_below d a =
    omega (
      arith,
      value-below (take 9 d) (all_take 9 d a),
      pow-le-pow_right {n = 10} (omega arith) {i = length (take 9 d)} {j = 9} (omega (arith, length-take 9 d)),
    )

-- ---- digits, and then a byte that is none, or nothing
pub span_run : (d r : List ℕ) → all_digits d ≡ true → digit_first r ≡ false → span (d ++ r) ≡ length d
span_run [] r a f = span-no r f
span_run (b ∷ d) r a f = span-cons b (d ++ r) (all_head b d a) ∙ ap suc (span_run d r (all_tail b d a) f)

module _ (d r : List ℕ) (a : all_digits d ≡ true) (f : digit_first r ≡ false) where
  pub leading-run : leading (d ++ r) ≡ d
  leading-run = take_at d r (span (d ++ r)) (sym (span_run d r a f))

  pub after_run : drop (span (d ++ r)) (d ++ r) ≡ r
  after_run = drop_at d r (span (d ++ r)) (sym (span_run d r a f))

  pub run-of : run_of (d ++ r) ≡ record { value = field_value d; count = length d }
  unfolding run_of
  run-of = rw (leading-run, span_run d r a f)

  pub run-nine : length d ≤ 9 → run_of (d ++ r) ≡ record { value = value_of d; count = length d }
  run-nine h = run-of ∙ rw (field-value d h)

-- ---- and back: every text is its leading digits and a rest that does not begin with one
leading-all-by : (b : ℕ) (l : List ℕ) (t : Bool) → is_digit b ≡ t → all_digits (leading l) ≡ true
    → all_digits (take (cond t (suc (span l)) 0) (b ∷ l)) ≡ true
unfolding all_digits
leading-all-by b l true e ih = all_cons b (leading l) e ih
leading-all-by b l false e ih = refl

pub leading-all : (l : List ℕ) → all_digits (leading l) ≡ true
unfolding span all_digits
leading-all [] = refl
leading-all (b ∷ l) = leading-all-by b l (is_digit b) refl (leading-all l)

stops-by : (b : ℕ) (l : List ℕ) (t : Bool) → is_digit b ≡ t → digit_first (drop (span l) l) ≡ false
    → digit_first (drop (cond t (suc (span l)) 0) (b ∷ l)) ≡ false
stops-by b l true e ih = ih
stops-by b l false e ih = e

pub span-stops : (l : List ℕ) → digit_first (drop (span l) l) ≡ false
unfolding span
span-stops [] = refl
span-stops (b ∷ l) = stops-by b l (is_digit b) refl (span-stops l)

pub leading-rest : (l : List ℕ) → leading l ++ drop (span l) l ≡ l
leading-rest l = take-append-drop (span l) l

span-within-by : (l : List ℕ) (t : Bool) → span l ≤ length l → cond t (suc (span l)) 0 ≤ suc (length l)
span-within-by l true h = omega arith
span-within-by l false h = omega arith

pub span-within : (l : List ℕ) → span l ≤ length l
unfolding span
span-within [] = omega arith
span-within (b ∷ l) = span-within-by l (is_digit b) (span-within l)

pub leading_length : (l : List ℕ) → length (leading l) ≡ span l
leading_length l = omega (arith, length-take (span l) l, span-within l)

-- ---- fields
pub leading-field : (l : List ℕ) → (span l ≡ 0 → ⊥) → IsField (leading l)
leading-field l h = record { some = omega (arith, leading_length l, h); digits = leading-all l }

-- a field begins with a digit, whatever stands behind it
pub field-first : (d r : List ℕ) → IsField d → digit_first (d ++ r) ≡ true
field-first [] r f = absurd (omega (arith, f.some))
field-first (b ∷ d) r f = all_head b d f.digits

-- the two parts of a run
pub run_value : (l : List ℕ) → (run_of l).value ≡ field_value (leading l)
unfolding run_of
run_value l = refl

pub run-count : (l : List ℕ) → (run_of l).count ≡ span l
unfolding run_of
run-count l = refl
