-- What each turn of the loop keeps, and what gets smaller.
-- Assumes nothing.
use Prim.Native.Nat.{◌≤◌}
use lib.ListN.{length}
use Rattle.asking.specs.Table.{row_at}
use Rattle.asking.proofs.Named.{Comparing}
use Rattle.asking.proofs.table.is_named.Given as goal

abbrev pub invariant-loop-i : goal.invariant-loop-i
invariant-loop-i l = (Comparing l.word (row_at l.row).name l.i) × (length l.word ≤ 15)
