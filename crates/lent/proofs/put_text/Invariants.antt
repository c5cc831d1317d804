-- What each turn of the loop keeps.
-- Assumes nothing.
use Rattle.lent.proofs.Copying.{Copying}
use Rattle.lent.proofs.put_text.Given as goal

abbrev pub invariant-loop-i : goal.invariant-loop-i
invariant-loop-i l = Copying l.text l.initial.part l.part l.i
