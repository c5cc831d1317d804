-- Division that floors (BEHAVIOUR: Arithmetic): what it is, and the function that computes it. Nearest: Nearest.antt; truncated: Truncate.antt.
-- Assumes nothing.
use Rattle.std.specs.Prelude.{ℕ, ◌/◌, ℤ, pos, negsuc, neg_ℤ, nat_abs, ◌*ℤ◌, ◌≤ℤ◌}

-- x with the divisor's sign taken over: x over d is this over the magnitude of d
abbrev pub over : ℤ → ℤ → ℤ
over x (pos n) = x
over x (negsuc n) = neg_ℤ x

-- k is the floor of x/d: the largest whole number that is not above it
pub record Floor (x d k : ℤ) : Type 0 where
  pub under : (k *ℤ pos (nat_abs d)) ≤ℤ over x d
  pub largest : (j : ℤ) → (j *ℤ pos (nat_abs d)) ≤ℤ over x d → j ≤ℤ k

-- a number over a magnitude, rounded down: -(a + 1) over n is -(a / n + 1)
abbrev pub down : ℤ → ℕ → ℤ
down (pos a) n = pos (a / n)
down (negsuc a) n = negsuc (a / n)

-- a number over a divisor of either sign, rounded down
abbrev pub floor_z : ℤ → ℤ → ℤ
floor_z x d = down (over x d) (nat_abs d)
