-- What each turn of the loop keeps, and what gets smaller.
-- Assumes nothing.
use Rattle.asking.proofs.Named.{Seeking}
use Rattle.asking.proofs.table.row_named.Given as goal

abbrev pub invariant-loop-row : goal.invariant-loop-row
invariant-loop-row l = Seeking l.word l.row
