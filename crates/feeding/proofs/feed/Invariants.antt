-- What each turn of the loop keeps, and what gets smaller.
-- Assumes nothing.
use Prim.Native.Nat.{◌-◌}
use lib.ListN.{length}
use Rattle.feeding.specs.Feeding.{machine, taken_to}
use Rattle.feeding.proofs.Following.{Run}
use Rattle.feeding.proofs.feed.Given as goal

abbrev pub invariant-loop-buffer : goal.invariant-loop-buffer
invariant-loop-buffer g l =
    Run l.chunk (machine l.initial.buffer l.initial.gathered (g.P.Page.seen l.initial.sheet)) (taken_to (machine l.buffer l.gathered (g.P.Page.seen l.sheet)) l.eaten)

abbrev pub decreases-loop-buffer : goal.decreases-loop-buffer
decreases-loop-buffer g l = length l.chunk - l.eaten
