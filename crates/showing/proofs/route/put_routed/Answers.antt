-- `showing::route::put_routed` meets its contract: case by case.
-- Assumes nothing.
use mathlib.Core.Path.{sym, ap, ◌∙◌}
use Rattle.showing.specs.Shown.{parts_on}
use Rattle.showing.specs.Why.{puts_on}
use Rattle.showing.specs.Routes.{routed_parts}
use Rattle.showing.proofs.WhyPutting.{text-refusal-shown}
use Rattle.showing.proofs.route.put_routed.Goals as goal

pub returns-in-Err : goal.returns-in-Err
returns-in-Err g c =
    let s = (g.P.Page.seen c.args.sheet.now) in
    c.put_shown.ensures
    ∙ ap (parts_on s) c.of_text_refusal.ensures
    ∙ text-refusal-shown s c.in-Err.e
    ∙ sym (ap (λ z. puts_on s (routed_parts z)) c.in-Err.is)
