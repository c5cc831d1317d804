-- `showing::why::put_reasoned` meets its contract: case by case.
-- Assumes nothing.
use mathlib.Core.Path.{sym, ap, ◌∙◌}
use Rattle.showing.specs.Shown.{parts_on}
use Rattle.showing.specs.Why.{puts_on, reasoned_parts}
use Rattle.showing.proofs.WhyPutting.{refusal-shown}
use Rattle.showing.proofs.why.put_reasoned.Goals as goal

pub returns-in-Err : goal.returns-in-Err
returns-in-Err g c =
    let s = (g.P.Page.seen c.args.sheet.now) in
    c.put_shown.ensures
    ∙ ap (parts_on s) c.of_refusal.ensures
    ∙ refusal-shown s c.in-Err.e
    ∙ sym (ap (λ z. puts_on s (reasoned_parts c.args.rate z)) c.in-Err.is)
