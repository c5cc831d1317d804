-- `asking::sharded::is_none` meets its contract: by the byte that stands there, and what is behind it.
-- Assumes nothing.
use mathlib.Core.Path.{sym, ◌∙◌}
use Rattle.asking.proofs.Ranges.{none_apart, none-by}
use Rattle.asking.proofs.sharded.is_none.Goals as goal

pub returns-then-stands : goal.returns-then-stands
returns-then-stands c = c.is_over.ensures ∙ none-by c.args.line.now c.args.at (sym c.stands.ensures ∙ c.if-stands.true)

pub returns-else-stands : goal.returns-else-stands
returns-else-stands c = c.if-stands.false ∙ none_apart c.args.line.now c.args.at (sym c.stands.ensures ∙ c.if-stands.false)
