-- `rates::row` meets its contract: a rate has its entry, and any other number zeros.
-- Assumes nothing.
use mathlib.Core.Path.{sym, ◌∙◌}
use Rattle.rates.specs.Laws.{row_out}
use Rattle.rates.proofs.row.Goals as goal

pub entry-requires : goal.entry-requires
entry-requires c = sym c.is_rate.ensures ∙ c.if-is_rate.true

pub returns-then-is_rate : goal.returns-then-is_rate
returns-then-is_rate c = c.entry.ensures

pub returns-else-is_rate : goal.returns-else-is_rate
returns-else-is_rate c = sym (row_out _ (sym c.is_rate.ensures ∙ c.if-is_rate.false))
