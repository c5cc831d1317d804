-- `telling::answered::answer` meets its contract: case by case, and an empty line behind it.
-- Assumes nothing.
use mathlib.Core.Path.{sym, ap, ◌∙◌}
use Rattle.streams.specs.Pieces.{all_on}
use Rattle.telling.specs.Answered.{answer_pieces}
use Rattle.telling.proofs.Cases.{over-put, text-put, question-put}
use Rattle.telling.proofs.answered.answer.Goals as goal
use Rattle.telling.proofs.answered.answer.Goals.{then-over, else-over+in-Some, else-over+in-None}

pub returns : goal.returns
returns g c =
    elim c.if-over.branch [
      | then-over w ↦
          c.put_byte.ensures ∙ over-put c.args.line.now (g.P.Page.seen c.args.sheet.now) _ c.args.way _ w.if-over.true (ap g.P.Page.seen w.sheet-is ∙ w.put_other.ensures)
      | else-over+in-Some w ↦
          c.put_byte.ensures ∙ text-put c.args.line.now (g.P.Page.seen c.args.sheet.now) _ _ _ w.if-over.false (ap g.P.Page.seen w.sheet-is ∙ w.tell.ensures)
          ∙ ap (λ way. all_on (g.P.Page.seen c.args.sheet.now) (answer_pieces way c.args.line.now c.args.over)) (sym w.in-Some.is)
      | else-over+in-None w ↦
          c.put_byte.ensures ∙ question-put c.args.line.now (g.P.Page.seen c.args.sheet.now) _ _ w.if-over.false (ap g.P.Page.seen w.sheet-is ∙ w.put_asked.ensures)
          ∙ ap (λ way. all_on (g.P.Page.seen c.args.sheet.now) (answer_pieces way c.args.line.now c.args.over)) (sym w.in-None.is)
    ]
