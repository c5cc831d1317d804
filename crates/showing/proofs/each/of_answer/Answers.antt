-- `showing::each::of_answer` meets its contract: case by case.
-- Assumes nothing.
use mathlib.Core.Path.{sym, ap, ◌∙◌}
use Rattle.showing.specs.Each.{of_answer}
use Rattle.showing.proofs.each.of_answer.Goals as goal

pub returns-in-Ok : goal.returns-in-Ok
returns-in-Ok c =
    c.one_count.ensures ∙ sym (ap of_answer c.in-Ok.is)

pub returns-in-Err : goal.returns-in-Err
returns-in-Err c =
    c.of_refusal.ensures ∙ sym (ap of_answer c.in-Err.is)
