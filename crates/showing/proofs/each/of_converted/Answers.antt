-- `showing::each::of_converted` meets its contract: case by case.
-- Assumes nothing.
use mathlib.Core.Path.{sym, ap, ◌∙◌}
use Rattle.showing.specs.Each.{of_converted}
use Rattle.showing.proofs.each.of_converted.Goals as goal

pub returns-in-Ok : goal.returns-in-Ok
returns-in-Ok c =
    c.count_and.ensures ∙ sym (ap of_converted c.in-Ok.is)

pub returns-in-Err : goal.returns-in-Err
returns-in-Err c =
    c.of_refusal.ensures ∙ sym (ap of_converted c.in-Err.is)
