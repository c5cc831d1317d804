-- What each turn of the loop keeps, and what gets smaller.
-- Assumes nothing.
use Prim.Native.Nat.{◌-◌, ◌≤◌}
use lib.ListN.{length}
use Rattle.shot_lists.specs.Entries.{on_disk}
use Rattle.shot_lists.specs.Reading.{read_of, checked_of}
use Rattle.shot_lists.specs.Walk.{Going}
use Rattle.shot_lists.proofs.Counting.{counted}
use Rattle.shot_lists.proofs.disk.check_list.Given as goal

abbrev pub invariant-loop-record : goal.invariant-loop-record
invariant-loop-record l = (l.n ≤ l.at) × Going on_disk l.list (checked_of (read_of on_disk l.list)) (counted l.n) l.at l.held

abbrev pub decreases-loop-record : goal.decreases-loop-record
decreases-loop-record l = length l.list - l.at
