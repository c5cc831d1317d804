-- The columns are laid down: label and ticks, each lent the rest of the part, stand right behind what is there.
-- Assumes nothing.
use native.Mathlib.Omega.{arith}
use Rattle.lent.proofs.Laws.{laid-three}
use Rattle.lines.specs.Output.{ended_text, label_column}
use Rattle.lines.proofs.Texts.{ended_length, label_length}
use Rattle.lines.proofs.ColumnsWritable.put.Goals as goal

pub returns : goal.returns
returns c =
    laid-three c.args.part.now _ _ _ (ended_text c.args.self.now.below c.args.self.now.count 32) (label_column c.args.self.now) (ended_text c.args.self.now.minus c.args.self.now.ticks 10) _ _
    c.requires
    c.put_ended.ensures
    (omega (arith, c.signed_length-first.ensures, ended_length c.args.self.now.below c.args.self.now.count 32))
    c.put_label.ensures
    (omega (arith, c.sections_length.ensures, label_length c.args.self.now))
    c.put_ended-2.ensures
