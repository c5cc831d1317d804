-- The length of the columns: the sum of what the columns take, none of which is long.
-- Assumes nothing.
use Prim.Native.Nat.{◌+◌, ◌≤◌}
use native.Mathlib.Omega.{arith}
use lib.ListN.{length}
use borrow.Author.Rules.{rules}
use Rattle.label_writer.specs.LabelText.{sections_length}
use Rattle.label_writer.proofs.Answers.{sections-most}
use Rattle.written.specs.Parts.{signed_text}
use Rattle.written.proofs.Parts.{padded-most}
use Rattle.lines.proofs.Texts.{columns_length}
use Rattle.lines.proofs.ColumnsWritable.length.Goals as goal
use Rattle.lines.proofs.ColumnsWritable.length.Goals.{Start}

-- no sum on the way to it wraps
short : (c : Start)
    → length (signed_text c.args.self.now.below c.args.self.now.count) + sections_length c.args.self.now.sections + length (signed_text c.args.self.now.minus c.args.self.now.ticks) ≤ 126
short c =
    omega (
      arith,
      padded-most c.args.self.now.below 1 c.args.self.now.count (omega arith) (search rules),
      sections-most c.args.self.now.sections (search rules) (search rules) (search rules) (search rules),
      padded-most c.args.self.now.minus 1 c.args.self.now.ticks (omega arith) (search rules),
    )

pub overflow_add-result : goal.overflow_add-result
overflow_add-result c =
    record { fits = omega (arith, short (goal.at.overflow_add-result c).Start) }

pub overflow_add-result-2 : goal.overflow_add-result-2
overflow_add-result-2 c =
    record { fits = omega (arith, short (goal.at.overflow_add-result-2 c).Start) }

pub overflow_add-result-3 : goal.overflow_add-result-3
overflow_add-result-3 c =
    record { fits = omega (arith, short (goal.at.overflow_add-result-3 c).Start) }

pub returns : goal.returns
returns c =
    omega (arith, columns_length c.args.self.now)
