-- `chains::all_rates` meets its contract: the listed numbers are tested in turn, as the definition does.
-- Assumes nothing.
use mathlib.Core.Path.{◌∙◌}
use borrow.Author.Rules.{rules}
use Rattle.std.proofs.lemmas.Iterator.{YieldsList-from_slice}
use Rattle.std.proofs.lemmas.Iterator.Search.{all_from_yields_List}
use Rattle.rates.specs.Rates.{is_rate}
use Rattle.chains.proofs.Walk.{every-same}
use Rattle.chains.proofs.all_rates.Goals as goal

pub returns : goal.returns
returns c =
    all_from_yields_List is_rate _ _ _ c.all.ensures.ran (YieldsList-from_slice c.args.list.now cc) (λ x b q k. search rules)
    ∙ every-same is_rate c.args.list.now
