-- What each turn of the loop keeps.
-- Assumes nothing.
use Rattle.scanner.proofs.Keeping.{Keeping}
use Rattle.scanner.proofs.cursor.Cursor.fields.Given as goal

abbrev pub invariant-loop-left : goal.invariant-loop-left
invariant-loop-left l = Keeping l.dividers l.most l.s l.initial.taken.next.at l.taken l.left
