-- What each turn of the loop keeps: what waits is what waits behind the bytes that are taken; and what gets smaller: what is left of the chunk.
-- Assumes nothing.
use Prim.Native.Nat.{◌-◌}
use mathlib.Core.Path.{◌≡◌}
use lib.ListN.{length, take}
use Rattle.streams.specs.Turns.{waiting, waiting_behind}
use Rattle.inputs.proofs.Waiting.each_line.Given as goal

abbrev pub invariant-loop-next : goal.invariant-loop-next
invariant-loop-next g l =
    waiting_behind l.initial.self.buffer l.initial.self.gathered (take l.next l.chunk) ≡ waiting l.self.buffer l.self.gathered

abbrev pub decreases-loop-next : goal.decreases-loop-next
decreases-loop-next g l = length l.chunk - l.next
