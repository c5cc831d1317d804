-- `feeding::finish` meets its contract: a line that has begun is answered onto the sheet without text, whoever lent it.
-- Assumes nothing.
use mathlib.Core.Path.{sym, ap, ◌∙◌}
use Rattle.feeding.specs.Feeding.{answered}
use Rattle.feeding.proofs.Following.{finished-empty, finished-last}
use Rattle.feeding.proofs.finish.Goals as goal

pub returns-then-not-is_empty : goal.returns-then-not-is_empty
returns-then-not-is_empty g c =
    let begun = sym c.is_empty.ensures ∙ c.if-not-is_empty.true in
    let first = g.P.Page.seen c.args.sheet.now in
    c.answer.ensures
    ∙ ap (answered c.args.buffer.now c.args.g) c.clear.ensures
    ∙ finished-last first.lender c.args.buffer.now first.bytes c.args.g begun

pub returns-else-not-is_empty : goal.returns-else-not-is_empty
returns-else-not-is_empty g c =
    let none = sym c.is_empty.ensures ∙ c.if-not-is_empty.false in
    let first = g.P.Page.seen c.args.sheet.now in
    c.clear.ensures ∙ finished-empty first.lender c.args.buffer.now first.bytes c.args.g none
