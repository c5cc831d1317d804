-- What C is handed of the shards that a query asks: the numbers of the struct that the contract names.
-- Assumes nothing.
use Rattle.std.specs.Prelude.{Err, Ok, Result}
use Rattle.answers.specs.declared.Refusal.{Refusal}
use Rattle.router.specs.declared.Shards.{Shards}
use mathlib.Core.Path.{◌≡◌, refl}
use Rattle.router.specs.Route.{route_of}
use Rattle.exports.specs.declared.route.TzqShards.{TzqShards}
use Rattle.exports.specs.HandedRoute.{handed_routed}
use Rattle.promises.specs.RouteC.{ShardsAre, RouteForC}

shards-are : (t : TzqShards) (r : Result Shards Refusal) → t ≡ handed_routed r → ShardsAre t r
unfolding handed_routed
shards-are t (Ok shards) e = rw e (record { refused_is = refl; place_is = refl; first-is = refl; after_is = refl })
shards-are t (Err f) e = rw e (record { refused_is = refl; place_is = refl; first-is = refl; after_is = refl })

pub route_for_c : RouteForC
route_for_c κs a x p = shards-are x.0 (route_of a.0 a.1.0.now a.1.1.0.now a.1.1.1.0 a.1.1.1.1.0.now) p
