-- What is found, as an answer (BEHAVIOUR: Router): the shards that a query asks, and the frames that it is of.
-- Assumes nothing.
use Rattle.std.specs.Prelude.{ℕ, Result, Ok}
use Rattle.answers.specs.declared.Refusal.{Refusal}
use Rattle.router.specs.declared.Shards.{Shards}
use Rattle.router.specs.declared.query.Frames.{Frames}

-- the first shard, and the one after the last
abbrev pub shards : (first after : ℕ) → Result Shards Refusal
shards first after = Ok (record { first = first; after = after })

-- the frames from a start up to an end, which is not one of them
abbrev pub frames : (start end : ℕ) → Result Frames Refusal
frames start end = Ok (record { start = start; end = end })
