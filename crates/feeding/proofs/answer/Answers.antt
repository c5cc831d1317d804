-- `feeding::answer` meets its contract: the answer is put behind what is used.
-- Assumes nothing.
use mathlib.Core.Path.{ap, ◌∙◌}
use Rattle.lines.specs.Output.{text_of, answer_text}
use Rattle.lines.proofs.Statements.{laid_as_text}
use Rattle.streams.specs.Sheet.{put_on}
use Rattle.feeding.specs.Feeding.{answered}
use Rattle.feeding.proofs.Following.{part-is}
use Rattle.feeding.proofs.answer.Goals as goal

pub returns : goal.returns
unfolding answered
returns g c =
    let s = g.P.Page.seen c.args.sheet.now in
    c.put.ensures
    ∙ ap (λ a. put_on s (text_of a)) c.answer_to_line.ensures
    ∙ ap (put_on s) (laid_as_text _)
    ∙ ap (λ l. put_on s (answer_text l)) (part-is c.args.buffer.now c.args.g.len c.min.result c.min.ensures)
