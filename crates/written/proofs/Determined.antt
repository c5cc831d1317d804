-- Each public function's contract allows one outcome: two that meet its equations are equal.
-- Assumes nothing.
use mathlib.Core.Path.{sym, ap, ◌∙◌}
use denote.RattleType.{RattleType}
use denote.Param.Laws.{Laws}
use mir.Syntax.{Dict}
use Rattle.written.specs.declared.Writable.{Ghosts}
use Rattle.outcomes.specs.Outcome.{Determined}
use Rattle.written.specs.contracts.length as length
use Rattle.written.proofs.length.Reads as length-reads
use Rattle.written.specs.contracts.put_marked as put-marked
use Rattle.written.proofs.put_marked.Reads as put-marked-reads
use Rattle.written.specs.contracts.signed_length as signed-length
use Rattle.written.proofs.signed_length.Reads as signed-length-reads
use Rattle.written.specs.contracts.put_signed as put-signed
use Rattle.written.proofs.put_signed.Reads as put-signed-reads
use Rattle.written.specs.contracts.field_length as field-length
use Rattle.written.proofs.field_length.Reads as field-length-reads
use Rattle.written.specs.contracts.put_field as put-field
use Rattle.written.proofs.put_field.Reads as put-field-reads
use Rattle.written.specs.contracts.clock_length as clock-length
use Rattle.written.proofs.clock_length.Reads as clock-length-reads
use Rattle.written.specs.contracts.put_clock as put-clock
use Rattle.written.proofs.put_clock.Reads as put-clock-reads
use Rattle.written.specs.contracts.write as write
use Rattle.written.proofs.write.Reads as write-reads
use Rattle.written.specs.contracts.write_text as write-text
use Rattle.written.proofs.write_text.Reads as write-text-reads

pub length-determined : Determined length.ended length-reads.Asked length-reads.Learnt
length-determined κs a asked x y p q = ap (λ z. (z, x.1)) (p ∙ sym q)

pub put-marked-determined : Determined put-marked.ended put-marked-reads.Asked put-marked-reads.Learnt
put-marked-determined κs a asked x y p q = ap (λ z. (x.0, (z, x.1.1))) (p ∙ sym q)

pub signed-length-determined : Determined signed-length.ended signed-length-reads.Asked signed-length-reads.Learnt
signed-length-determined κs a asked x y p q = ap (λ z. (z, x.1)) (p ∙ sym q)

pub put-signed-determined : Determined put-signed.ended put-signed-reads.Asked put-signed-reads.Learnt
put-signed-determined κs a asked x y p q = ap (λ z. (x.0, (z, x.1.1))) (p ∙ sym q)

pub field-length-determined : Determined field-length.ended field-length-reads.Asked field-length-reads.Learnt
field-length-determined κs a asked x y p q = ap (λ z. (z, x.1)) (p ∙ sym q)

pub put-field-determined : Determined put-field.ended put-field-reads.Asked put-field-reads.Learnt
put-field-determined κs a asked x y p q = ap (λ z. (x.0, (z, x.1.1))) (p ∙ sym q)

pub clock-length-determined : Determined clock-length.ended clock-length-reads.Asked clock-length-reads.Learnt
clock-length-determined κs a asked x y p q = ap (λ z. (z, x.1)) (p ∙ sym q)

pub put-clock-determined : Determined put-clock.ended put-clock-reads.Asked put-clock-reads.Learnt
put-clock-determined κs a asked x y p q = ap (λ z. (x.0, (z, x.1.1))) (p ∙ sym q)

pub write-text-determined : Determined write-text.ended write-text-reads.Asked write-text-reads.Learnt
write-text-determined κs a asked x y p q = ap (λ z. (z, x.1)) (p.0 ∙ sym q.0) ∙ ap (λ z. (y.0, (x.1.0, (z, x.1.1.1)))) (p.1 ∙ sym q.1)

pub write-determined : (T : RattleType) (laws : Laws T) (text : Ghosts T.Denot) (code : Dict)
    → Determined (write.ended T text code) (write-reads.Asked T laws text code) (write-reads.Learnt T laws text code)
write-determined T laws text code κs a asked x y p q = ap (λ z. (z, x.1)) (p.0 ∙ sym q.0) ∙ ap (λ z. (y.0, (x.1.0, (z, x.1.1.1)))) (p.1 ∙ sym q.1)
