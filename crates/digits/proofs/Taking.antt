-- The loop of `run_at`: what was taken and what is left make the run that is wanted.
-- Assumes nothing.
use Prim.Native.Nat.{ℕ, zero, suc, ◌+◌, ◌-◌, ◌*◌, ◌^◌, ◌≤◌, ◌<◌, min}
use mathlib.Core.Path.{◌≡◌, refl, sym, ap, ◌∙◌}
use mathlib.Core.List.{List, [], ◌∷◌}
use mathlib.Core.Bool.{Bool, true, false}
use native.Mathlib.Omega.{arith}
use native.Mathlib.Numerals.{add-one}
use native.Mathlib.Nat.{add-zero, min-eq_left, min-eq_right, pow-suc}
use lib.ListN.{length, take, drop, get_or, drop_of_length-le}
use lib.Seq.{drop-cons, take-nil}
use lib.Dec.{ltb}
use borrow.Author.Tests.{ltb-true, ltb-false}
use Rattle.digits.specs.Digits.{is_digit, value_from, field_value, digit_first, span, leading, run_of}
use Rattle.digits.proofs.Values.{digit-bounds}
use Rattle.digits.proofs.Runs.{span-cons, span-no}

-- ---- a digit more, where it is one of the first nine
module _ (v n b : ℕ) where
  pub push-early : n < 9 → value_from v (take (9 - n) (b ∷ [])) ≡ v * 10 + (b - 48)
  unfolding value_from
  push-early h = let e : 9 - n ≡ suc (8 - n) = omega arith in rw e (ap (λ (x : List ℕ). value_from v (b ∷ x)) (take-nil (8 - n)))

  pub push-late : 9 ≤ n → value_from v (take (9 - n) (b ∷ [])) ≡ v
  unfolding value_from
  push-late h = let e : 9 - n ≡ 0 = omega arith in rw e

  push-on-by : (m : ℕ) (l : List ℕ) → value_from v (take m (b ∷ l)) ≡ value_from (value_from v (take m (b ∷ []))) (take (m - 1) l)
  unfolding value_from
  push-on-by zero l = refl
  push-on-by (suc m) l =
      let e : suc m - 1 ≡ m = omega arith in
      rw e (ap (λ (x : List ℕ). value_from (value_from v (b ∷ x)) (take m l)) (sym (take-nil m)))

  -- the value of digits is that of the first, pushed, with the others behind it
  pub push-on : (l : List ℕ)
      → value_from v (take (9 - n) (b ∷ l)) ≡ value_from (value_from v (take (9 - n) (b ∷ []))) (take (9 - (n + 1)) l)
  push-on l =
      let e : 9 - n - 1 ≡ 9 - (n + 1) = omega arith in
      push-on-by (9 - n) l ∙ rw e

  push-below-by : (t : Bool) → ltb n 9 ≡ t → v < 10 ^ min n 9 → b ≤ 57
      → value_from v (take (9 - n) (b ∷ [])) < 10 ^ min (n + 1) 9
  push-below-by true e h k =
      let l = ltb-true n 9 e in
      let f : v < 10 ^ n = rw (min-eq_left {n = n} {m = 9} (omega arith)) at h in
      rw (push-early l, min-eq_left {n = n + 1} {m = 9} (omega arith), add-one, pow-suc) (omega arith)
  push-below-by false e h k =
      let l = ltb-false n 9 e in
      let f : v < 10 ^ 9 = rw (min-eq_right {n = 9} {m = n} l) at h in
      rw (push-late l, min-eq_right {n = 9} {m = n + 1} (omega arith)) f

  pub push-below : v < 10 ^ min n 9 → is_digit b ≡ true → value_from v (take (9 - n) (b ∷ [])) < 10 ^ min (n + 1) 9
  push-below h e = push-below-by (ltb n 9) refl h (digit-bounds b e).1

-- ---- the first n digits of s, of value v, were taken
module _ (s : List ℕ) (n : ℕ) (h : n < length s) where
  split-here : drop n s ≡ get_or s n 0 ∷ drop (n + 1) s
  split-here = rw (add-one n) (drop-cons s n 0 h)

  -- the byte that is next tells whether a digit stands in front of what is left
  pub first-here : digit_first (drop n s) ≡ is_digit (get_or s n 0)
  first-here = ap digit_first split-here

pub record Taking (s : List ℕ) (n v : ℕ) : Type 0 where
  pub below : v < 10 ^ min n 9
  pub count : span s ≡ n + span (drop n s)
  pub value : field_value (leading s) ≡ value_from v (take (9 - n) (leading (drop n s)))

pub taking-start : (s : List ℕ) → Taking s 0 0
taking-start s = record { below = omega arith; count = omega arith; value = refl }

pub taking-turn : (s : List ℕ) (n v : ℕ) → Taking s n v → n < length s → is_digit (get_or s n 0) ≡ true
    → Taking s (n + 1) (value_from v (take (9 - n) (get_or s n 0 ∷ [])))
taking-turn s n v k h f =
    let b = get_or s n 0 in
    let rest = drop (n + 1) s in
    let d = split-here s n h in
    let more : leading (drop n s) ≡ b ∷ leading rest = ap leading d ∙ rw (span-cons b rest f) in
    record {
      below = push-below v n b k.below f;
      count = omega (arith, k.count, ap span d ∙ span-cons b rest f);
      value = k.value ∙ ap (λ (l : List ℕ). value_from v (take (9 - n) l)) more ∙ push-on v n b (leading rest);
    }

pub taking-done : (s : List ℕ) (n v : ℕ) → Taking s n v → digit_first (drop n s) ≡ false → record { value = v; count = n } ≡ run_of s
unfolding run_of value_from
taking-done s n v k e =
    let none = span-no (drop n s) e in
    sym (rw (k.value, k.count, none, add-zero, take-nil))

-- no byte is left
pub taking-all : (s : List ℕ) (n v : ℕ) → Taking s n v → length s ≤ n → record { value = v; count = n } ≡ run_of s
taking-all s n v k h = taking-done s n v k (ap digit_first (drop_of_length-le s h))
