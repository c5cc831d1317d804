-- `asking::values::signed_at` meets its contract: an optional `-`, and the digits behind it.
-- Assumes nothing.
use mathlib.Core.Path.{sym, ◌∙◌}
use Rattle.asking.proofs.NumberLaws.{signed-minus, signed-plain}
use Rattle.asking.proofs.values.signed_at.Goals as goal

pub returns-then-stands : goal.returns-then-stands
returns-then-stands c = c.digits_at.ensures ∙ signed-minus _ _ (sym c.stands.ensures ∙ c.if-stands.true)

pub returns-else-stands : goal.returns-else-stands
returns-else-stands c = c.digits_at-else-stands.ensures ∙ signed-plain _ _ (sym c.stands.ensures ∙ c.if-stands.false)
