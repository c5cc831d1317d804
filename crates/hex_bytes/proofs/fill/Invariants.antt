-- What each turn of the loop keeps, and what gets smaller.
-- Assumes nothing.
use Rattle.lent.proofs.Copying.{Copying}
use Rattle.hex_bytes.specs.Hex.{pair_bytes}
use Rattle.hex_bytes.proofs.fill.Given as goal

abbrev pub invariant-loop-i : goal.invariant-loop-i
invariant-loop-i l = Copying (pair_bytes l.text) l.initial.into l.into l.i
