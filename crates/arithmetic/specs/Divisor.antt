-- A divisor is any number but zero, and as p/q within its bounds (BEHAVIOUR: Refusals).
-- Assumes nothing.
use Rattle.std.specs.Prelude.{ℕ, List, [], ◌∷◌, Bool, not, ltb, ℤ, nat_abs}
use Rattle.answers.specs.Order.{Condition, when}
use Rattle.answers.specs.Refusals.{zero_divisor}
use Rattle.time.specs.Bounds.{bad_factor}

abbrev pub is_divisor : ℤ → Bool
is_divisor n = ltb 0 (nat_abs n)

-- 7: divisor zero
abbrev pub bad_divisor : ℤ → Condition
bad_divisor n = when zero_divisor (not (is_divisor n))

-- a divisor p/q: 5, out of bounds, then 7
abbrev pub divisor_when : (p : ℤ) (q : ℕ) → List Condition
divisor_when p q = bad_factor p q ∷ bad_divisor p ∷ []
