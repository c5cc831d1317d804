-- The nearest whole number, halves away from zero (BEHAVIOUR: Time, Arithmetic): what it is, and the function that computes it.
-- Floored: Floor.antt; truncated: Truncate.antt.
-- Assumes nothing.
use Rattle.std.specs.Prelude.{◌≡◌, ℕ, ◌+◌, ◌*◌, ◌/◌, ◌≤◌, ℤ, pos, nat_abs, ◌-ℤ◌, ◌*ℤ◌}
use Rattle.numbers.specs.Sign.{is_neg, signed}

-- k is the nearest whole number of x/n: no other multiple of n is closer to x, and of two as close it is the one away from zero
pub record Nearest (x : ℤ) (n : ℕ) (k : ℤ) : Type 0 where
  pub closest : (j : ℤ) → nat_abs (k *ℤ pos n -ℤ x) ≤ nat_abs (j *ℤ pos n -ℤ x)
  pub away : (j : ℤ) → nat_abs (j *ℤ pos n -ℤ x) ≡ nat_abs (k *ℤ pos n -ℤ x) → nat_abs j ≤ nat_abs k

-- the nearest of two magnitudes: half a step up, then cut off
unfoldable pub nearest_n : ℕ → ℕ → ℕ
nearest_n a n = (2 * a + n) / (2 * n)

-- the nearest of a signed number: the magnitude's, with the number's sign
abbrev pub nearest_z : ℤ → ℕ → ℤ
nearest_z x n = signed (is_neg x) (nearest_n (nat_abs x) n)
