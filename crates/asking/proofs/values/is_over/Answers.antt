-- `asking::values::is_over` meets its contract: by the byte at the place, where there is one.
-- Assumes nothing.
use mathlib.Core.Path.{◌≡◌, ◌∙◌}
use mathlib.Core.Bool.{true, cond}
use borrow.Author.Rules.{rules}
use lib.Dec.{eqb, ltb}
use lib.ListN.{length, get_or}
use Rattle.asking.proofs.Taken.{over-at}
use Rattle.asking.proofs.values.is_over.Goals as goal

pub returns : goal.returns
returns c =
    let by : c.is_none_or.result ≡ cond (ltb c.args.at (length c.args.line.now)) (eqb (get_or c.args.line.now c.args.at 0) 32) true = search rules in
    by ∙ over-at c.args.line.now c.args.at
