-- What each turn of the loop keeps.
-- Assumes nothing.
use Rattle.asking.proofs.Recording.{Recording}
use Rattle.asking.proofs.recorded.records.Given as goal

abbrev pub invariant-loop-n : goal.invariant-loop-n
invariant-loop-n l = Recording l.line l.from l.initial.list l.list l.at l.due l.n
