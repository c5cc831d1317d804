-- `lines::answer_to_line` meets its contract: the columns of what the line holds, or the number of its refusal.
-- Assumes nothing.
use Prim.Native.Nat.{ℕ}
use mathlib.Core.Path.{sym, ap, ◌∙◌}
use Rattle.lines.specs.declared.LineAnswer.{LineAnswer}
use Rattle.lines.specs.declared.Content.TheVariants as content
use Rattle.lines.specs.Output.{answer_with, answer_of}
use Rattle.lines.proofs.answer_to_line.Goals as goal

pub returns-in-Ok : goal.returns-in-Ok
unfolding answer_of
returns-in-Ok c =
    ap answer_with (sym c.in-Ok.is ∙ c.columns_held.ensures)

pub returns-in-Err : goal.returns-in-Err
unfolding answer_of
returns-in-Err c =
    let refused : ℕ → LineAnswer = λ number. record { content = content.Refused (record { number = number }) } in
    ap refused (c.from.ensures ∙ c.number.ensures) ∙ ap answer_with (sym c.in-Err.is ∙ c.columns_held.ensures)
