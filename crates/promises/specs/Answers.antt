-- Demand 1, calls: what it means that a function answers every call, and in one way.
-- Assumes nothing.
use denote.Triple.Entry.{Args}
use denote.Triple.Clauses.{Ended}
use Rattle.outcomes.specs.Outcome.{Times, Asks, Tells, Determined}

-- what the contract asks of the caller holds of every argument, and any two outcomes that it allows are equal: the answer, and every lent byte.
-- (That the function ends with such an outcome is its own theorem.)
pub record Answers (T : Ended) (asks : Asks T) (tells : Tells T) : Type 0 where
  pub asks_nothing : (κs : Times T) (a : Args T.signature κs) → asks κs a
  pub one_outcome : Determined T asks tells
