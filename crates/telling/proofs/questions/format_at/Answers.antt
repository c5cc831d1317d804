-- `telling::questions::format_at` meets its contract: a number, and a space behind it.
-- Assumes nothing.
use mathlib.Core.Path.{sym, ◌∙◌}
use native.Mathlib.Omega.{arith}
use Rattle.telling.proofs.WordLaws.{number-within, format-none, format-other, format-some}
use Rattle.telling.proofs.questions.format_at.Goals as goal
use Rattle.telling.proofs.questions.format_at.Goals.{else-is_number-via-then-is_number+else-stands, else-is_number-via-else-is_number}

pub overflow_add-at : goal.overflow_add-at
overflow_add-at c =
    omega (arith, number-within c.args.line.now c.args.at _ c.run_at-run.ensures (sym c.is_number.ensures ∙ c.if-is_number.true))

pub returns-then-stands : goal.returns-then-stands
returns-then-stands c =
    format-some c.args.line.now c.args.at _ c.run_at-run.ensures c.args.o (sym c.is_number.ensures ∙ c.if-is_number.true)
    (sym c.stands.ensures ∙ c.if-stands.true)

pub returns : goal.returns
returns c =
    elim c.else-is_number.branch [
      | else-is_number-via-then-is_number+else-stands w ↦
          format-other c.args.line.now c.args.at _ c.run_at-run.ensures c.args.o (sym c.is_number.ensures ∙ w.if-is_number.true)
          (sym w.stands.ensures ∙ w.if-stands.false)
      | else-is_number-via-else-is_number w ↦
          format-none c.args.line.now c.args.at _ c.run_at-run.ensures c.args.o (sym c.is_number.ensures ∙ w.if-is_number.false)
    ]
