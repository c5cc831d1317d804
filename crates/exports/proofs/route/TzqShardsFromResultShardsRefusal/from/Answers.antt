-- `exports::TzqShards::from` meets its contract: the two shards, or the refusal.
-- Assumes nothing.
use Rattle.exports.specs.HandedRoute.{handed_routed}
use Rattle.exports.proofs.route.TzqShardsFromResultShardsRefusal.from.Goals as goal

pub returns-in-Ok : goal.returns-in-Ok
unfolding handed_routed
returns-in-Ok c =
    simp c.in-Ok.is

pub returns-in-Err : goal.returns-in-Err
unfolding handed_routed
returns-in-Err c =
    simp (c.number_of.ensures, c.in-Err.is)
