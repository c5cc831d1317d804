-- Each public function's contract allows one outcome: two that meet its equations are equal.
-- Assumes nothing.
use mathlib.Core.Path.{sym, ap, ◌∙◌}
use Rattle.outcomes.specs.Outcome.{Determined}
use Rattle.label_writer.specs.contracts.sections as sections
use Rattle.label_writer.proofs.sections.Reads as sections-reads
use Rattle.label_writer.specs.contracts.sections_length as sections-length
use Rattle.label_writer.proofs.sections_length.Reads as sections-length-reads
use Rattle.label_writer.specs.contracts.put_sections as put_sections
use Rattle.label_writer.proofs.put_sections.Reads as put-sections-reads
use Rattle.label_writer.specs.contracts.write_label as write_label
use Rattle.label_writer.proofs.write_label.Reads as write-label-reads

pub sections-determined : Determined sections.ended sections-reads.Asked sections-reads.Learnt
sections-determined κs a asked x y p q = ap (λ z. (z, x.1)) (p ∙ sym q)

pub sections-length-determined : Determined sections-length.ended sections-length-reads.Asked sections-length-reads.Learnt
sections-length-determined κs a asked x y p q = ap (λ z. (z, x.1)) (p ∙ sym q)

pub put-sections-determined : Determined put_sections.ended put-sections-reads.Asked put-sections-reads.Learnt
put-sections-determined κs a asked x y p q = ap (λ z. (x.0, (z, x.1.1))) (p ∙ sym q)

pub write-label-determined : Determined write_label.ended write-label-reads.Asked write-label-reads.Learnt
write-label-determined κs a asked x y p q = ap (λ z. (z, x.1)) (p.0 ∙ sym q.0) ∙ ap (λ z. (y.0, (x.1.0, (z, x.1.1.1)))) (p.1 ∙ sym q.1)
