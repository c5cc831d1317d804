-- What each turn of the loop keeps: what is wanted is what the sheet has, with the bytes that are left.
-- Assumes nothing.
use Rattle.telling.proofs.Lines.{Showing}
use Rattle.telling.proofs.pieces.put_shown.Given as goal

abbrev pub invariant-loop-b : goal.invariant-loop-b
invariant-loop-b g l = Showing l.text (g.P.Page.seen l.initial.sheet) (g.P.Page.seen l.sheet) l.b-index
