-- What each turn of the loop keeps: what is wanted is what the sheet has, with the spaces that are left.
-- Assumes nothing.
use Rattle.telling.proofs.Lines.{Spacing}
use Rattle.telling.proofs.pieces.put_caret.Given as goal

abbrev pub invariant-loop : goal.invariant-loop
invariant-loop g l = Spacing l.place (g.P.Page.seen l.initial.sheet) (g.P.Page.seen l.sheet) l.counter
