-- `lines::answer` meets its contract: the answer as a value is laid down as its text.
-- Assumes nothing.
use mathlib.Core.Path.{ap, ◌∙◌}
use Rattle.written.specs.Written.{Text}
use Rattle.written.proofs.Laws.{meets-same}
use Rattle.lines.specs.Output.{text_of, answer_text}
use Rattle.lines.proofs.Statements.{laid_as_text}
use Rattle.lines.proofs.answer.Goals as goal

pub returns : goal.returns
returns c =
    let same = ap (λ a. Text (text_of a)) c.answer_to_line.ensures ∙ ap Text (laid_as_text c.args.input.now) in
    meets-same c.args.out.now c.args.place (Text (answer_text c.args.input.now)) _ _ _ same c.write.ensures
