-- `exports::TzqReasonFromRefusal::from` meets its contract: by its definition.
-- Assumes nothing.
use Rattle.exports.specs.HandedWhy.{no_reason}
use Rattle.exports.proofs.why.TzqReasonFromRefusal.from.Goals as goal

pub returns : goal.returns
unfolding no_reason
returns c =
    simp c.number_of.ensures
