-- What C is handed of the shards that a query asks: the numbers of the answer, and zeros where there are none.
-- Assumes nothing.
use Rattle.answers.specs.declared.Refusal.{Refusal}
use Rattle.router.specs.declared.Shards.{Shards}
use Rattle.answers.specs.Causes.{refusal_number}
use Rattle.std.specs.Prelude.{ℕ, ◌≡◌, Err, Ok, Result}
use Rattle.outcomes.specs.Outcome.{Gives}
use Rattle.router.specs.Route.{route_of}
use Rattle.exports.specs.declared.route.TzqShards.{TzqShards}
use Rattle.exports.specs.contracts.route.tzq_route as tzq_route
use Rattle.exports.proofs.route.tzq_route.Reads as tzq-route-reads

-- these four numbers
pub record Numbers (t : TzqShards) (refused place first after : ℕ) : Type 0 where
  pub refused_is : t.refused ≡ refused
  pub place_is : t.place ≡ place
  pub first-is : t.first ≡ first
  pub after_is : t.after ≡ after

-- of shards the first and the one after the last; of a refusal its number and place
abbrev pub ShardsAre : TzqShards → Result Shards Refusal → Type 0
ShardsAre t (Ok shards) = Numbers t 0 0 shards.first shards.after
ShardsAre t (Err e) = Numbers t (refusal_number e) e.place 0 0

-- so it is of whatever the contract of `tzq_route` allows
abbrev pub RouteForC : Type 0
RouteForC =
    Gives tzq_route.ended tzq-route-reads.Learnt (λ κs a x.
    ShardsAre x.0 (route_of a.0 a.1.0.now a.1.1.0.now a.1.1.1.0 a.1.1.1.1.0.now))
