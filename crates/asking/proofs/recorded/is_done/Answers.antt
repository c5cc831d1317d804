-- `asking::recorded::is_done` meets its contract: by what is due.
-- Assumes nothing.
use mathlib.Core.Path.{◌∙◌}
use borrow.Author.Tests.{ne_eqb}
use Rattle.asking.proofs.RecordSteps.{done-not, done-ended}
use Rattle.asking.proofs.recorded.is_done.Goals as goal

pub returns-then-due-eq0 : goal.returns-then-due-eq0
returns-then-due-eq0 c = done-ended _ _ _ c.if-due-eq0.true

pub returns-else-due-eq0 : goal.returns-else-due-eq0
returns-else-due-eq0 c = ne_eqb c.args.due 0 c.if-due-eq0.false ∙ done-not _ _ _ c.if-due-eq0.false
