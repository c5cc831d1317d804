-- Laws of the nearest on magnitudes, over every step n above zero (BEHAVIOUR: Time, Arithmetic).
-- Assumes nothing.
use Rattle.std.specs.Prelude.{◌≡◌, ℕ, ◌+◌, ◌*◌, ◌/◌, ◌≤◌, ◌<◌}
use Rattle.std.proofs.Math.Nat.{div-eq_of_lt-le, lt-div-mul-add}
use Rattle.std.proofs.Common.{div-mul-le_self, le-div_iff_mul-le, arith}
use Rattle.numbers.specs.Nearest.{nearest_n}

-- k is the nearest: k n is at most half a step above a, and less than half a step below
pub near-is : (a n k : ℕ) → 0 < n → 2 * (k * n) ≤ 2 * a + n → 2 * a < 2 * (k * n) + n → nearest_n a n ≡ k
unfolding nearest_n
near-is a n k h lo hi = div-eq_of_lt-le {k = k} (2 * n) (omega arith) (omega arith)

-- and the other way
pub near-above : (a n : ℕ) → 0 < n → 2 * (nearest_n a n * n) ≤ 2 * a + n
unfolding nearest_n
near-above a n h = omega (arith, div-mul-le_self (2 * a + n) (2 * n))

pub near-below : (a n : ℕ) → 0 < n → 2 * a < 2 * (nearest_n a n * n) + n
unfolding nearest_n
near-below a n h = omega (arith, lt-div-mul-add {a = 2 * a + n} {b = 2 * n} (omega arith))

-- a multiple's nearest is its own number
pub near-exact : (k n : ℕ) → 0 < n → nearest_n (k * n) n ≡ k
near-exact k n h = near-is (k * n) n k h (omega arith) (omega arith)

-- more has no lesser nearest
pub near-mono : (a b n : ℕ) → 0 < n → a ≤ b → nearest_n a n ≤ nearest_n b n
unfolding nearest_n
near-mono a b n h l =
    (le-div_iff_mul-le {k = 2 * n} {x = (2 * a + n) / (2 * n)} {y = 2 * b + n} (omega arith)).1
    (omega (arith, div-mul-le_self (2 * a + n) (2 * n)))
