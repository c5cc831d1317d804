-- `rates::framerate_at` meets its contract: the test is that of the number, and each return the law of its answer.
-- Assumes nothing.
use Rattle.std.specs.Prelude.{Err, Ok}
use Rattle.std.proofs.lemmas.Bool.{not_from_false, not_from_true}
use mathlib.Core.Path.{sym, ap, ◌∙◌}
use Rattle.numbers.proofs.Tests.{fails, passes}
use Rattle.rates.specs.Laws.{rate_at-in, rate_at-out}
use Rattle.rates.proofs.framerate_at.Goals as goal

pub returns-then-not-is_rate : goal.returns-then-not-is_rate
returns-then-not-is_rate c =
    ap Err c.into.ensures ∙ sym (rate_at-out _ (fails c.is_rate.ensures (not_from_false _ c.if-not-is_rate.true)))

pub entry-requires : goal.entry-requires
entry-requires c = passes c.is_rate.ensures (not_from_true _ c.if-not-is_rate.false)

pub returns : goal.returns
returns c =
    ap Ok c.entry.ensures ∙ sym (rate_at-in _ (passes c.is_rate.ensures (not_from_true _ c.if-not-is_rate.false)))
