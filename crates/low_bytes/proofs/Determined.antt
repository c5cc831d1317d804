-- Each public function's contract allows one outcome: two that meet its equation are equal.
-- Assumes nothing.
use mathlib.Core.Path.{sym, ap, ◌∙◌}
use Rattle.outcomes.specs.Outcome.{Determined}
use Rattle.low_bytes.specs.contracts.number_at as number_at
use Rattle.low_bytes.proofs.number_at.Reads as number-at-reads
use Rattle.low_bytes.specs.contracts.signed_at as signed-at
use Rattle.low_bytes.proofs.signed_at.Reads as signed-at-reads
use Rattle.low_bytes.specs.contracts.put_number as put-number
use Rattle.low_bytes.proofs.put_number.Reads as put-number-reads
use Rattle.low_bytes.specs.contracts.put_signed as put-signed
use Rattle.low_bytes.proofs.put_signed.Reads as put-signed-reads

pub number-at-determined : Determined number_at.ended number-at-reads.Asked number-at-reads.Learnt
number-at-determined κs a asked x y p q = ap (λ z. (z, x.1)) (p ∙ sym q)

pub signed-at-determined : Determined signed-at.ended signed-at-reads.Asked signed-at-reads.Learnt
signed-at-determined κs a asked x y p q = ap (λ z. (z, x.1)) (p ∙ sym q)

pub put-number-determined : Determined put-number.ended put-number-reads.Asked put-number-reads.Learnt
put-number-determined κs a asked x y p q = ap (λ z. (x.0, (z, x.1.1))) (p ∙ sym q)

pub put-signed-determined : Determined put-signed.ended put-signed-reads.Asked put-signed-reads.Learnt
put-signed-determined κs a asked x y p q = ap (λ z. (x.0, (z, x.1.1))) (p ∙ sym q)
