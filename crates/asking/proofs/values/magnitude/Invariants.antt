-- What each turn of the loop keeps, and what gets smaller.
-- Assumes nothing.
use Rattle.asking.proofs.NumberLaws.{Valuing}
use Rattle.asking.proofs.values.magnitude.Given as goal

abbrev pub invariant-loop-b : goal.invariant-loop-b
invariant-loop-b l = Valuing l.d l.m l.b-index
