-- What each turn of the loop keeps, and what gets smaller.
-- Assumes nothing.
use Prim.Native.Nat.{◌*◌, ◌-◌, ◌≤◌}
use lib.ListN.{length}
use Rattle.shot_lists.specs.Entries.{in_numbers}
use Rattle.shot_lists.specs.Reading.{read_of}
use Rattle.shot_lists.specs.Walk.{Going}
use Rattle.shot_writer.specs.ListText.{measured_of}
use Rattle.shot_writer.proofs.Measuring.{measured}
use Rattle.shot_writer.proofs.measure.Given as goal

abbrev pub invariant-loop-record : goal.invariant-loop-record
invariant-loop-record l = (l.n ≤ 3 * l.at) × Going in_numbers l.given (measured_of (read_of in_numbers l.given)) (measured l.n) l.at l.held

abbrev pub decreases-loop-record : goal.decreases-loop-record
decreases-loop-record l = length l.given - l.at
