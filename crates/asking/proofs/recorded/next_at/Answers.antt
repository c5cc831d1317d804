-- `asking::recorded::next_at` meets its contract: by what is due.
-- Assumes nothing.
use mathlib.Core.Path.{◌∙◌}
use Rattle.asking.proofs.RecordSteps.{next-kind, next-number}
use Rattle.asking.proofs.recorded.next_at.Goals as goal

pub returns-then-due-eq0 : goal.returns-then-due-eq0
returns-then-due-eq0 c =
    c.kind_at.ensures ∙ next-kind _ _ _ c.if-due-eq0.true

pub returns : goal.returns
returns c =
    c.number.ensures ∙ next-number _ _ _ c.if-due-eq0.false
