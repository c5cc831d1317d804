-- `label_writer::sections_length` meets its contract: the sum of its clock and its frames, neither of which is long.
-- Assumes nothing.
use native.Mathlib.Omega.{arith}
use borrow.Author.Rules.{rules}
use Rattle.label_writer.proofs.Answers.{sections-length, sections-most}
use Rattle.label_writer.proofs.sections_length.Goals as goal

pub overflow_add-result : goal.overflow_add-result
overflow_add-result c =
    record { fits = omega (arith, sections-length 58 c.args.s, sections-most c.args.s (search rules) (search rules) (search rules) (search rules)) }

pub returns : goal.returns
returns c =
    omega (arith, sections-length 58 c.args.s)
