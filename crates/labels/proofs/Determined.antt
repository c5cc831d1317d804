-- Each public function's contract allows one outcome: two that meet its equations are equal.
-- Assumes nothing.
use mathlib.Core.Path.{sym, ap, ◌∙◌}
use Rattle.outcomes.specs.Outcome.{Determined}
use Rattle.labels.specs.contracts.label_count as label-count
use Rattle.labels.proofs.label_count.Reads as label-count-reads
use Rattle.labels.specs.contracts.label_frames as label-frames
use Rattle.labels.proofs.label_frames.Reads as label-frames-reads
use Rattle.labels.specs.contracts.strict_fault as strict-fault
use Rattle.labels.proofs.strict_fault.Reads as strict-fault-reads
use Rattle.labels.specs.contracts.is_dropped as is-dropped
use Rattle.labels.proofs.is_dropped.Reads as is-dropped-reads
use Rattle.labels.specs.contracts.sections as sections
use Rattle.labels.proofs.sections.Reads as sections-reads

pub label-count-determined : Determined label-count.ended label-count-reads.Asked label-count-reads.Learnt
label-count-determined κs a asked x y p q = ap (λ z. (z, x.1)) (p ∙ sym q)

pub label-frames-determined : Determined label-frames.ended label-frames-reads.Asked label-frames-reads.Learnt
label-frames-determined κs a asked x y p q = ap (λ z. (z, x.1)) (p ∙ sym q)

pub strict-fault-determined : Determined strict-fault.ended strict-fault-reads.Asked strict-fault-reads.Learnt
strict-fault-determined κs a asked x y p q = ap (λ z. (z, x.1)) (p ∙ sym q)

pub is-dropped-determined : Determined is-dropped.ended is-dropped-reads.Asked is-dropped-reads.Learnt
is-dropped-determined κs a asked x y p q = ap (λ z. (z, x.1)) (p ∙ sym q)

pub sections-determined : Determined sections.ended sections-reads.Asked sections-reads.Learnt
sections-determined κs a asked x y p q = ap (λ z. (z, x.1)) (p ∙ sym q)
