-- What each turn of the loop keeps, and what gets smaller.
-- Assumes nothing.
use Prim.Native.Nat.{◌-◌}
use Rattle.asking.proofs.Taken.{Going}
use Rattle.asking.proofs.words.words.Given as goal

abbrev pub invariant-loop-kind : goal.invariant-loop-kind
invariant-loop-kind l = Going l.row l.line l.from l.values l.at l.k

abbrev pub decreases-loop-kind : goal.decreases-loop-kind
decreases-loop-kind l = 5 - l.k
