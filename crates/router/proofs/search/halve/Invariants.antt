-- What each turn of the loop keeps, and what gets smaller.
-- Assumes nothing.
use Prim.Native.Nat.{◌-◌}
use Rattle.router.specs.HalvingLaws.{Halves}
use Rattle.router.proofs.search.halve.Given as goal

abbrev pub invariant-loop-lo : goal.invariant-loop-lo
invariant-loop-lo l = Halves l.v l.xs l.lo l.hi

abbrev pub decreases-loop-lo : goal.decreases-loop-lo
decreases-loop-lo l = l.hi - l.lo
