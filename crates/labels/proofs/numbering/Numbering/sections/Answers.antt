-- `labels::numbering::Numbering::sections` meets its contract: the correction is bounded by the count.
-- Assumes nothing.
use native.Mathlib.Omega.{arith}
use Rattle.labels.specs.BoundLaws.{dropped-short}
use Rattle.labels.proofs.numbering.Numbering.sections.Goals as goal

pub overflow_add-number : goal.overflow_add-number
overflow_add-number c =
    omega (arith, c.dropped_before.ensures, dropped-short c.args.self.timebase c.args.self.d c.args.n c.args.self.timebase_most c.args.self.fewer)
