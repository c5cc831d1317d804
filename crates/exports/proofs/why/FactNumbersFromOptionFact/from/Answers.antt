-- `exports::FactNumbers::from` of any fact meets its contract: of none the default.
-- Assumes nothing.
use mathlib.Core.Path.{sym, ap, ◌∙◌}
use Rattle.exports.specs.HandedWhy.{no_fact, fact_numbers}
use Rattle.exports.proofs.Defaults.{no-fact}
use Rattle.exports.proofs.why.FactNumbersFromOptionFact.from.Goals as goal

pub returns-in-None : goal.returns-in-None
unfolding no_fact
returns-in-None c =
    (no-fact c.default.result c.default.ensures) ∙ sym (ap fact_numbers c.in-None.is)
