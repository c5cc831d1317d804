-- What each turn of the loop keeps: what is summed up is what the bytes that were taken are worth.
-- Assumes nothing.
use Rattle.low_bytes.proofs.Summing.{Summing}
use Rattle.low_bytes.proofs.number_at.Given as goal

abbrev pub invariant-loop-b : goal.invariant-loop-b
invariant-loop-b l = Summing l.initial.b-iterator.iter.rest.now l.b-iterator.iter.rest.now l.n
