-- `asking::words::is_marked` meets its contract: one of the two.
-- Assumes nothing.
use mathlib.Core.Path.{sym, ◌∙◌}
use Rattle.asking.proofs.Taken.{marked-unstated, marked-stated}
use Rattle.asking.proofs.words.is_marked.Goals as goal

pub returns-then-is_unstated : goal.returns-then-is_unstated
returns-then-is_unstated c = c.if-is_unstated.true ∙ marked-unstated _ _ (sym c.is_unstated.ensures ∙ c.if-is_unstated.true)

pub returns-else-is_unstated : goal.returns-else-is_unstated
returns-else-is_unstated c = c.is_position.ensures ∙ marked-stated _ _ (sym c.is_unstated.ensures ∙ c.if-is_unstated.false)
