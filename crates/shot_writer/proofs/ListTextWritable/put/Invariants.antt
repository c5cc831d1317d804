-- What each turn of the loop keeps, and what gets smaller.
-- Assumes nothing.
use Prim.Native.Nat.{◌-◌}
use lib.ListN.{length}
use Rattle.shot_writer.proofs.Putting.{Putting}
use Rattle.shot_writer.proofs.ListTextWritable.put.Given as goal

abbrev pub invariant-loop-record : goal.invariant-loop-record
invariant-loop-record l = Putting l.self.given.now l.initial.part l.part l.at l.held l.to

abbrev pub decreases-loop-record : goal.decreases-loop-record
decreases-loop-record l = length l.self.given.now - l.at
