-- Each public function's contract allows one outcome: two that meet its equations are equal.
-- Assumes nothing.
use mathlib.Core.Path.{sym, ap, ◌∙◌}
use Rattle.outcomes.specs.Outcome.{Determined}
use Rattle.reading.specs.contracts.read_text as read-text
use Rattle.reading.proofs.read_text.Reads as read-text-reads
use Rattle.reading.specs.contracts.taking.take_text as take-text
use Rattle.reading.proofs.taking.take_text.Reads as take-text-reads
use Rattle.reading.specs.contracts.taking.take_label as take-label
use Rattle.reading.proofs.taking.take_label.Reads as take-label-reads
use Rattle.reading.specs.contracts.read_label_only as read_label_only
use Rattle.reading.proofs.read_label_only.Reads as read-label-only-reads
use Rattle.reading.specs.contracts.read_taken as read_taken
use Rattle.reading.proofs.read_taken.Reads as read-taken-reads
use Rattle.reading.specs.contracts.format_for as format-for
use Rattle.reading.proofs.format_for.Reads as format-for-reads
use Rattle.reading.specs.contracts.position_fault as position-fault
use Rattle.reading.proofs.position_fault.Reads as position-fault-reads

pub read-text-determined : Determined read-text.ended read-text-reads.Asked read-text-reads.Learnt
read-text-determined κs a asked x y p q = ap (λ z. (z, x.1)) (p ∙ sym q)

pub take-text-determined : Determined take-text.ended take-text-reads.Asked take-text-reads.Learnt
take-text-determined κs a asked x y p q = ap (λ z. (z, x.1)) (p ∙ sym q)

pub take-label-determined : Determined take-label.ended take-label-reads.Asked take-label-reads.Learnt
take-label-determined κs a asked x y p q = ap (λ z. (z, x.1)) (p ∙ sym q)

pub read-label-only-determined : Determined read_label_only.ended read-label-only-reads.Asked read-label-only-reads.Learnt
read-label-only-determined κs a asked x y p q = ap (λ z. (z, x.1)) (p ∙ sym q)

pub read-taken-determined : Determined read_taken.ended read-taken-reads.Asked read-taken-reads.Learnt
read-taken-determined κs a asked x y p q = ap (λ z. (z, x.1)) (p ∙ sym q)

pub format-for-determined : Determined format-for.ended format-for-reads.Asked format-for-reads.Learnt
format-for-determined κs a asked x y p q = ap (λ z. (z, x.1)) (p ∙ sym q)

pub position-fault-determined : Determined position-fault.ended position-fault-reads.Asked position-fault-reads.Learnt
position-fault-determined κs a asked x y p q = ap (λ z. (z, x.1)) (p ∙ sym q)
