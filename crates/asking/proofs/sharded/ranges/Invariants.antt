-- What each turn of the loop keeps, and what gets smaller.
-- Assumes nothing.
use Prim.Native.Nat.{suc, ◌-◌}
use lib.ListN.{length}
use Rattle.asking.proofs.Ranges.{Ranging}
use Rattle.asking.proofs.sharded.ranges.Given as goal

abbrev pub invariant-loop-r : goal.invariant-loop-r
invariant-loop-r l = Ranging l.line l.from l.initial.firsts l.initial.ends l.firsts l.ends l.at l.n

abbrev pub decreases-loop-r : goal.decreases-loop-r
decreases-loop-r l = suc (length l.line) - l.at
