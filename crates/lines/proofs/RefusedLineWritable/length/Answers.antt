-- The length of the answer to a refused line: the word, the number and the newline, none of which is long.
-- Assumes nothing.
use native.Mathlib.Omega.{arith}
use mathlib.Core.Bool.{false}
use borrow.Author.Rules.{rules}
use Rattle.written.proofs.Parts.{padded-most}
use Rattle.lines.proofs.Texts.{refused_length}
use Rattle.lines.proofs.RefusedLineWritable.length.Goals as goal

pub overflow_add-result : goal.overflow_add-result
overflow_add-result c =
    record { fits = omega (arith, padded-most false 1 c.args.self.now.number (omega arith) (search rules)) }

pub returns : goal.returns
returns c =
    omega (arith, refused_length c.args.self.now.number)
