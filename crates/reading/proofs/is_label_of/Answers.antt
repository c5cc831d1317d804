-- `reading::is_label_of` meets its contract: any label may be a length's, and in a position's nothing is at fault.
-- Assumes nothing.
use Rattle.std.proofs.lemmas.Bool.{not_from_false, not_from_true}
use mathlib.Core.Path.{sym, ◌∙◌, ap}
use Rattle.numbers.proofs.Tests.{fails, passes}
use Rattle.faults.specs.Faults.{is_none}
use Rattle.faults.specs.FaultLaws.{none_told}
use Rattle.reading.specs.ForLaws.{any-label, day-label, position-none}
use Rattle.reading.proofs.is_label_of.Goals as goal

pub returns-then-not-is_position : goal.returns-then-not-is_position
returns-then-not-is_position c =
    sym (any-label c.args.kind c.args.rate c.args.minus c.args.fields (fails c.is_position.ensures (not_from_false _ c.if-not-is_position.true)))

pub returns : goal.returns
returns c =
    none_told c.position_fault.result c.is_none.ensures
    ∙ ap is_none c.position_fault.ensures
    ∙ position-none c.args.rate c.args.minus c.args.fields
    ∙ sym (day-label c.args.kind c.args.rate c.args.minus c.args.fields (passes c.is_position.ensures (not_from_true _ c.if-not-is_position.false)))
