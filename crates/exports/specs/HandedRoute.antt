-- What is handed to C of the shards that a query asks (BEHAVIOUR: Router).
-- Assumes nothing.
use Rattle.std.specs.Prelude.{Err, Ok, Result}
use Rattle.answers.specs.declared.Refusal.{Refusal}
use Rattle.router.specs.declared.Shards.{Shards}
use Rattle.answers.specs.Causes.{refusal_number}
use Rattle.exports.specs.declared.route.TzqShards.{TzqShards}

-- the first shard and the one after the last; of a refusal its number and place, and 0
unfoldable pub handed_routed : Result Shards Refusal → TzqShards
handed_routed (Ok shards) = record { refused = 0; place = 0; first = shards.first; after = shards.after }
handed_routed (Err e) = record { refused = refusal_number e; place = e.place; first = 0; after = 0 }
