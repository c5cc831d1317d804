-- What each turn of the loop keeps: so many digits of the rest were taken.
-- Assumes nothing.
use Rattle.digits.proofs.Taking.{Taking}
use Rattle.digits.proofs.run_at.Given as goal

abbrev pub invariant-loop-count : goal.invariant-loop-count
invariant-loop-count l = Taking l.rest l.count l.value
