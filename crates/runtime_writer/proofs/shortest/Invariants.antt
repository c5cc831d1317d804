-- What each turn of the loop keeps, and what gets smaller.
-- Assumes nothing.
use Rattle.runtime_writer.proofs.Fraction.{Dropping}
use Rattle.runtime_writer.proofs.shortest.Given as goal

abbrev pub invariant-loop-tail : goal.invariant-loop-tail
invariant-loop-tail l = Dropping l.k l.n l.tail.width l.tail.value

abbrev pub decreases-loop-tail : goal.decreases-loop-tail
decreases-loop-tail l = l.tail.width
