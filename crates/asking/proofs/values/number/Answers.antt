-- `asking::values::number` meets its contract: a space, and the number behind it.
-- Assumes nothing.
use mathlib.Core.Path.{sym, ◌∙◌}
use Rattle.asking.proofs.NumberLaws.{number-none, number-some}
use Rattle.asking.proofs.values.number.Goals as goal

pub returns-then-stands : goal.returns-then-stands
returns-then-stands c = c.signed_at.ensures ∙ number-some _ _ (sym c.stands.ensures ∙ c.if-stands.true)

pub returns-else-stands : goal.returns-else-stands
returns-else-stands c = number-none _ _ (sym c.stands.ensures ∙ c.if-stands.false)
