-- `shot_writer::write_list` meets its contract: where the list is refused, nothing was done.
-- Assumes nothing.
use Rattle.std.specs.Prelude.{Err}
use mathlib.Core.Path.{◌≡◌, ◌∙◌}
use borrow.Author.Rules.{rules}
use Rattle.written.proofs.Laws.{meets-none}
use Rattle.shot_lists.specs.Entries.{in_numbers}
use Rattle.shot_lists.specs.Reading.{read_of}
use Rattle.shot_writer.specs.ListText.{draft_of}
use Rattle.shot_writer.proofs.Measuring.{was-refused}
use Rattle.shot_writer.proofs.write_list.Goals as goal

pub returns-in_err-measure-clause-answer : goal.returns-in_err-measure-clause-answer
returns-in_err-measure-clause-answer c =
    let t = read_of in_numbers c.args.given.now in
    let failed : c.from_residual.result ≡ Err c.in_err-measure.field-0.0 = search rules in
    failed ∙ (meets-none c.args.line.now c.args.place (draft_of t) _ (was-refused t _ c.in_err-measure.ensures)).answer

pub returns-in_err-measure-clause-line : goal.returns-in_err-measure-clause-line
returns-in_err-measure-clause-line c =
    let t = read_of in_numbers c.args.given.now in
    (meets-none c.args.line.now c.args.place (draft_of t) _ (was-refused t _ c.in_err-measure.ensures)).line
