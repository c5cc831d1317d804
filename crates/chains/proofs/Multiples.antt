-- Multiples of a step: one less than half a step away is the nearest; out to those of a step that is no longer and back is where one was.
-- Assumes nothing.
use mathlib.Core.Path.{◌≡◌, sym, ◌∙◌, ap, subst}
use Prim.Native.Nat.{ℕ, ◌*◌, ◌≤◌, ◌<◌}
use native.Mathlib.Nat.{mul-le-mul_right}
use native.Mathlib.Decide.{dec_lt}
use native.Mathlib.Omega.{arith}
use lib.IntN.{ℤ, pos, nat_abs, ◌-ℤ◌, ◌*ℤ◌}
use lib.Signed.{◌≤ℤ◌}
use Rattle.numbers.specs.SignLaws.{abs_neg}
use Rattle.numbers.specs.DistanceLaws.{minus-neg, far_none, triangle, abs-product}
use Rattle.numbers.specs.ProductLaws.{mul-sub}
use Rattle.numbers.specs.Nearest.{nearest_z}
use Rattle.numbers.specs.NearestSignedLaws.{half_step, exact, monotone}

-- from x to y is as far as from y to x
far-back : (x y : ℤ) → nat_abs (x -ℤ y) ≡ nat_abs (y -ℤ x)
far-back x y = sym (abs_neg (x -ℤ y)) ∙ ap nat_abs (minus-neg x y)

-- multiples of n less than n apart are one
one-multiple : (j k : ℤ) (n : ℕ) → nat_abs (j *ℤ pos n -ℤ k *ℤ pos n) < n → j ≡ k
one-multiple j k n h = far_none j k (none (nat_abs (j -ℤ k)) n (rw (sym (abs-product (j -ℤ k) (pos n)), mul-sub j k (pos n)) h))
  where
    none : (d n : ℕ) → d * n < n → d ≡ 0
    none d n l = by_cases (dec_lt 0 d)
      where
        by_cases : Dec (0 < d) → d ≡ 0
        by_cases (yes p) = absurd (omega (arith, mul-le-mul_right n p))
        by_cases (no f) = omega arith

-- a multiple less than half a step away is the nearest
pub nearest-within : (x k : ℤ) (n : ℕ) → 2 * nat_abs (k *ℤ pos n -ℤ x) < n → nearest_z x n ≡ k
nearest-within x k n h =
    one-multiple (nearest_z x n) k n
    (omega
    (arith, half_step x n (omega arith), triangle (nearest_z x n *ℤ pos n) x (k *ℤ pos n), far-back x (k *ℤ pos n)))

-- out by the step s and back by r
pub there_back : (x : ℤ) (r s : ℕ) → 0 < s → s ≤ r → nearest_z (nearest_z (x *ℤ pos r) s *ℤ pos s) r ≡ x
there_back x r s h l = by_cases (dec_lt s r)
  where
    by_cases : Dec (s < r) → nearest_z (nearest_z (x *ℤ pos r) s *ℤ pos s) r ≡ x
    by_cases (yes p) =
        nearest-within (nearest_z (x *ℤ pos r) s *ℤ pos s) x r
        (omega (arith, half_step (x *ℤ pos r) s h, far-back (x *ℤ pos r) (nearest_z (x *ℤ pos r) s *ℤ pos s)))
    by_cases (no f) =
        let same : r ≡ s = omega arith in
        rw same (rw (exact x s h) (exact x s h))

-- multiples in order have their numbers in order
pub le-multiple : (x y : ℤ) (n : ℕ) → 0 < n → (x *ℤ pos n) ≤ℤ (y *ℤ pos n) → x ≤ℤ y
le-multiple x y n h l =
    subst (λ (z : ℤ). z ≤ℤ y) (exact x n h)
    (subst (λ (z : ℤ). nearest_z (x *ℤ pos n) n ≤ℤ z) (exact y n h) (monotone (x *ℤ pos n) (y *ℤ pos n) n h l))
