-- Division that truncates, and its remainder (BEHAVIOUR: Arithmetic): what they are; lib.Signed's `quot_z` and `rem_z` compute them.
-- Nearest: Nearest.antt; floored: Floor.antt.
-- Assumes nothing.
use Rattle.std.specs.Prelude.{◌≡◌, ◌<◌, ℤ, nat_abs, ◌+ℤ◌, ◌*ℤ◌}
use Rattle.numbers.specs.Sign.{is_neg}

-- q and r are the truncated quotient and the remainder of x by d: together they make x up, the remainder is smaller than the divisor,
-- and unless it is 0 it has the dividend's sign
pub record Truncated (x d q r : ℤ) : Type 0 where
  pub whole : (q *ℤ d) +ℤ r ≡ x
  pub small : nat_abs r < nat_abs d
  pub side : 0 < nat_abs r → is_neg r ≡ is_neg x
