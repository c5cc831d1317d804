-- The powers of ten, and what a product with them is at most.
-- Assumes nothing.
use Prim.Native.Nat.{ℕ, ◌*◌, ◌^◌, ◌≤◌, ◌<◌}
use native.Mathlib.Omega.{arith}
use native.Mathlib.Nat.{one-le-pow, pow-le-pow_right, mul-le-mul}
use Rattle.answers.specs.Refusals.{most_count}

-- a power of ten is not 0, and at most a million at a precision of at most 6
pub ten-pos : (k : ℕ) → 0 < 10 ^ k
ten-pos k = omega (arith, one-le-pow k 10 (omega arith))

pub ten-most : (k : ℕ) → k ≤ 6 → 10 ^ k ≤ 1000000
ten-most k h = pow-le-pow_right {n = 10} (omega arith) {i = k} {j = 6} h

-- a count within its bounds, times a denominator, times a power of ten
pub frames-most : (f d : ℕ) → f ≤ most_count → d ≤ 1001 → f * d ≤ 400400000000
frames-most f d h k = mul-le-mul h k

pub units-most : (f d k : ℕ) → f ≤ most_count → d ≤ 1001 → k ≤ 6 → f * d * 10 ^ k ≤ 400400000000000000
units-most f d k h e p = mul-le-mul (frames-most f d h e) (ten-most k p)
