-- What each turn of the loop keeps, and what gets smaller.
-- Assumes nothing.
use Prim.Native.Nat.{◌*◌}
use Rattle.lent.proofs.Copying.{Copying}
use Rattle.hex_bytes.specs.Hex.{digit_pairs}
use Rattle.hex_bytes.proofs.put_pairs.Given as goal

abbrev pub invariant-loop-i : goal.invariant-loop-i
invariant-loop-i l = Copying (digit_pairs l.bytes) l.initial.part l.part (2 * l.i)
