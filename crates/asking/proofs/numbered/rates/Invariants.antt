-- What each turn of the loop keeps.
-- Assumes nothing.
use Rattle.asking.proofs.Listing.{Lists}
use Rattle.asking.proofs.numbered.rates.Given as goal

abbrev pub invariant-loop-n : goal.invariant-loop-n
invariant-loop-n l = Lists l.line l.from l.initial.list l.list l.at l.n
