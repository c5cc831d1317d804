-- What each turn of the loop keeps, and what gets smaller.
-- Assumes nothing.
use Prim.Native.Nat.{◌-◌}
use lib.ListN.{length}
use Rattle.showing.proofs.ListPutting.{Underway}
use Rattle.showing.proofs.lists.put_records.Given as goal

abbrev pub invariant-loop-at : goal.invariant-loop-at
invariant-loop-at g l = Underway l.list (g.P.Page.seen l.initial.sheet) (g.P.Page.seen l.sheet) l.at l.held

abbrev pub decreases-loop-at : goal.decreases-loop-at
decreases-loop-at g l = length l.list - l.at
