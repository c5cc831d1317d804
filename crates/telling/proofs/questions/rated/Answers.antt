-- `telling::questions::rated` meets its contract: a number, and behind it nothing, or a space and the text.
-- Assumes nothing.
use Rattle.std.proofs.lemmas.Bool.{not_from_false, not_from_true}
use mathlib.Core.Path.{sym, ◌∙◌}
use native.Mathlib.Omega.{arith}
use borrow.Author.Tests.{not-true, not-false}
use Rattle.telling.proofs.WordLaws.{number-within, rate-none, rate-ends, rate-text, rate-other}
use Rattle.telling.proofs.questions.rated.Goals as goal

pub returns-then-not-is_number : goal.returns-then-not-is_number
returns-then-not-is_number c =
    rate-none c.args.line.now c.args.o _ c.run_at-run.ensures (sym c.is_number.ensures ∙ not-true _ (not_from_false _ c.if-not-is_number.true))

pub overflow_add-next : goal.overflow_add-next
overflow_add-next c =
    omega (arith, number-within c.args.line.now c.args.o.at _ c.run_at-run.ensures (sym c.is_number.ensures ∙ not-false _ (not_from_true _ c.if-not-is_number.false)))

pub returns-then-line-next : goal.returns-then-line-next
returns-then-line-next c =
    rate-ends c.args.line.now c.args.o _ c.run_at-run.ensures (sym c.is_number.ensures ∙ not-false _ (not_from_true _ c.if-not-is_number.false)) c.if-line-next.true

pub returns-then-stands : goal.returns-then-stands
returns-then-stands c =
    rate-text c.args.line.now c.args.o _ c.run_at-run.ensures (sym c.is_number.ensures ∙ not-false _ (not_from_true _ c.if-not-is_number.false)) c.if-line-next.false
    (sym c.stands.ensures ∙ c.if-stands.true)

pub returns : goal.returns
returns c =
    rate-other c.args.line.now c.args.o _ c.run_at-run.ensures (sym c.is_number.ensures ∙ not-false _ (not_from_true _ c.if-not-is_number.false)) c.if-line-next.false
    (sym c.stands.ensures ∙ c.if-stands.false)
