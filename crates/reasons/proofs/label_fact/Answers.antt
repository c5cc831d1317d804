-- `reasons::label_fact` meets its contract: each arm is the definition by the number of the cause that led there.
-- Assumes nothing.
use Rattle.std.specs.Prelude.{Some}
use Prim.Native.Nat.{ℕ}
use mathlib.Core.Path.{sym, ap, ◌∙◌}
use Rattle.answers.specs.Causes.{cause_number}
use Rattle.faults.specs.Faults.{count_fault}
use Rattle.label_writer.specs.declared.TimecodeSections.{TimecodeSections}
use Rattle.reasons.specs.declared.Fact.TheVariants.{First}
use Rattle.reasons.specs.Facts.{limit_from, first_label}
use Rattle.reasons.proofs.Facts.{label-three, label-five, label-fourteen, label_none, number_apart}
use Rattle.reasons.proofs.label_fact.Goals as goal

pub returns-in-DroppedLabel : goal.returns-in-DroppedLabel
returns-in-DroppedLabel c =
    ap (λ (s : TimecodeSections). Some (First s)) (c.first_label.ensures ∙ ap (λ (d : ℕ). first_label d c.args.scan.minus c.args.scan.fields) c.drop_frames_per_minute-d.ensures)
    ∙ sym (label-three (cause_number c.args.cause) c.args.rate c.args.scan.minus c.args.scan.fields (ap cause_number c.in-DroppedLabel.is))

pub returns-in-OutOfBounds : goal.returns-in-OutOfBounds
returns-in-OutOfBounds c =
    c.limit_from.ensures
    ∙ ap limit_from (c.count_fault.ensures ∙ ap (count_fault c.args.scan.minus) c.label_frames-frames.ensures)
    ∙ sym (label-five (cause_number c.args.cause) c.args.rate c.args.scan.minus c.args.scan.fields (ap cause_number c.in-OutOfBounds.is))

pub returns-in-NotStrict : goal.returns-in-NotStrict
returns-in-NotStrict c =
    c.limit_from-in-NotStrict.ensures
    ∙ ap limit_from c.position_fault.ensures
    ∙ sym (label-fourteen (cause_number c.args.cause) c.args.rate c.args.scan.minus c.args.scan.fields (ap cause_number c.in-NotStrict.is))

pub returns-in_default : goal.returns-in_default
returns-in_default c =
    sym (label_none (cause_number c.args.cause) c.args.rate c.args.scan.minus c.args.scan.fields
    (number_apart c.args.cause 3 c.in_default.not-DroppedLabel)
    (number_apart c.args.cause 5 c.in_default.not-OutOfBounds)
    (number_apart c.args.cause 14 c.in_default.not-NotStrict))
