-- Each public function's contract allows one outcome: two that meet its equations are equal.
-- Assumes nothing.
use mathlib.Core.Path.{sym, ap, ◌∙◌}
use Rattle.outcomes.specs.Outcome.{Determined}
use Rattle.digits.specs.contracts.is_digit as is_digit
use Rattle.digits.proofs.is_digit.Reads as is-digit-reads
use Rattle.digits.specs.contracts.run_at as run_at
use Rattle.digits.proofs.run_at.Reads as run-at-reads
use Rattle.digits.specs.contracts.width_of as width_of_lem
use Rattle.digits.proofs.width_of.Reads as width-of-reads
use Rattle.digits.specs.contracts.put_digits as put-digits
use Rattle.digits.proofs.put_digits.Reads as put-digits-reads

pub is-digit-determined : Determined is_digit.ended is-digit-reads.Asked is-digit-reads.Learnt
is-digit-determined κs a asked x y p q = ap (λ z. (z, x.1)) (p ∙ sym q)

pub run-at-determined : Determined run_at.ended run-at-reads.Asked run-at-reads.Learnt
run-at-determined κs a asked x y p q = ap (λ z. (z, x.1)) (p ∙ sym q)

pub width-of-determined : Determined width_of_lem.ended width-of-reads.Asked width-of-reads.Learnt
width-of-determined κs a asked x y p q = ap (λ z. (z, x.1)) (p ∙ sym q)

pub put-digits-determined : Determined put-digits.ended put-digits-reads.Asked put-digits-reads.Learnt
put-digits-determined κs a asked x y p q = ap (λ z. (x.0, (z, x.1.1))) (p ∙ sym q)
