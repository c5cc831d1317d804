-- Bounds of a fraction p/q (BEHAVIOUR: Refusals), whose q goes from 1 to 1,000,000, over the most that p may be.
-- Assumes nothing.
use Rattle.std.specs.Prelude.{ℕ, Bool, not, ◌&&◌, leb, ℤ, nat_abs}
use Rattle.answers.specs.Order.{Condition, when}
use Rattle.answers.specs.Refusals.{out_of_bounds}

-- |p| is at most 10^12 for seconds, and at most 1,000,000 for factors and rational divisors; q is at most 1,000,000
abbrev pub most_seconds : ℕ
most_seconds = 1000000000000

abbrev pub most_factor : ℕ
most_factor = 1000000

abbrev pub most_denominator : ℕ
most_denominator = 1000000

-- |p| at most `most`, q from 1 to 1,000,000
unfoldable pub is_fraction : (most : ℕ) → ℤ → ℕ → Bool
is_fraction most p q = leb (nat_abs p) most && (leb 1 q && leb q most_denominator)

-- 5: seconds p/q out of bounds
abbrev pub bad_seconds : (p : ℤ) (q : ℕ) → Condition
bad_seconds p q = when out_of_bounds (not (is_fraction most_seconds p q))

-- 5: a factor or a rational divisor p/q out of bounds
abbrev pub bad_factor : (p : ℤ) (q : ℕ) → Condition
bad_factor p q = when out_of_bounds (not (is_fraction most_factor p q))
