-- A fraction is multiplied by ten for each digit that it lacks to six, and is then in millionths, fewer than 10^6.
-- Assumes nothing.
use Prim.Native.Nat.{ℕ, zero, suc, ◌+◌, ◌-◌, ◌*◌, ◌^◌, ◌≤◌, ◌<◌}
use mathlib.Core.Path.{◌≡◌}
use mathlib.Core.List.{List}
use native.Mathlib.Omega.{arith}
use native.Mathlib.Nat.{add-zero, add-suc, mul_assoc, pow-suc, pow-le-pow_right, mul-le-mul, mul-lt-mul_of_pos_right}
use lib.ListN.{length}
use mathlib.Core.Bool.{true}
use Rattle.digits.specs.Digits.{all_digits, value_of, field_value}
use Rattle.digits.proofs.Values.{value-below}
use Rattle.digits.proofs.Runs.{field-value}
use Rattle.runtime_scan.specs.Shape.{in_millionths}

-- at most by 10^6
pub scale-most : (n : ℕ) → 10 ^ (6 - n) ≤ 10 ^ 6
scale-most n = pow-le-pow_right {n = 10} (omega arith) {i = 6 - n} {j = 6} (omega arith)

-- so what is read of a fraction does not wrap
pub scaled_fits : (v n p : ℕ) → v < 10 ^ 9 → p ≡ 10 ^ (6 - n) → v * p < 2 ^ 64
scaled_fits v n p h e =
    let m : v * p ≤ 10 ^ 9 * 10 ^ 6 = mul-le-mul {n₁ = v} {m₁ = p} {n₂ = 10 ^ 9} {m₂ = 10 ^ 6} (omega arith) (omega (arith, scale-most n)) in
    omega arith

-- a value of n digits, multiplied by ten k times, is one of n + k digits
below-scaled : (v n k : ℕ) → v < 10 ^ n → v * 10 ^ k < 10 ^ (n + k)
below-scaled v n zero h = rw (add-zero n) (omega arith)
below-scaled v n (suc k) h =
    rw (add-suc n k, pow-suc 10 k, pow-suc 10 (n + k), ← mul_assoc v (10 ^ k) 10)
    (mul-lt-mul_of_pos_right (below-scaled v n k h) (omega arith))

-- so there are fewer than 10^6 millionths
pub fraction-below : (d : List ℕ) → all_digits d ≡ true → length d ≤ 6 → in_millionths (field_value d) (length d) < 10 ^ 6
fraction-below d a h =
    let e : length d + (6 - length d) ≡ 6 = omega arith in
    let b = below-scaled (value_of d) (length d) (6 - length d) (value-below d a) in
    rw (field-value d (omega arith)) (rw e at b)
