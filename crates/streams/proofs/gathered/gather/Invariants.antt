-- What each turn of the loop keeps, and how far it goes.
-- Assumes nothing.
use Prim.Native.Nat.{◌≤◌, max}
use lib.ListN.{length}
use Rattle.streams.proofs.Gathering.{Running}
use Rattle.streams.proofs.gathered.gather.Given as goal

abbrev pub invariant-loop-i : goal.invariant-loop-i
invariant-loop-i l = record { running : Running l.chunk l.from l.initial.buffer l.initial.h l.buffer l.h l.i; end : l.i ≤ max l.from (length l.chunk) }
