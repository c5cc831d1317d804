-- Each public function's contract allows one outcome: two that meet its equation are equal, and a fraction has one form in lowest terms.
-- Assumes nothing.
use mathlib.Core.Path.{sym, ap, ap₂, ◌∙◌}
use Rattle.outcomes.specs.Outcome.{Determined}
use Rattle.numbers.specs.LowestLaws.{lowest_or-one}
use Rattle.numbers.specs.contracts.below_zero as below-zero
use Rattle.numbers.proofs.below_zero.Reads as below-zero-reads
use Rattle.numbers.specs.contracts.magnitude as magnitude
use Rattle.numbers.proofs.magnitude.Reads as magnitude-reads
use Rattle.numbers.specs.contracts.up_from as up_from
use Rattle.numbers.proofs.up_from.Reads as up-from-reads
use Rattle.numbers.specs.contracts.with_sign as with-sign
use Rattle.numbers.proofs.with_sign.Reads as with-sign-reads
use Rattle.numbers.specs.contracts.sum as sum
use Rattle.numbers.proofs.sum.Reads as sum-reads
use Rattle.numbers.specs.contracts.difference as difference
use Rattle.numbers.proofs.difference.Reads as difference-reads
use Rattle.numbers.specs.contracts.product as product
use Rattle.numbers.proofs.product.Reads as product-reads
use Rattle.numbers.specs.contracts.nearest as nearest
use Rattle.numbers.proofs.nearest.Reads as nearest-reads
use Rattle.numbers.specs.contracts.quotient as quotient
use Rattle.numbers.proofs.quotient.Reads as quotient-reads
use Rattle.numbers.specs.contracts.remainder as remainder
use Rattle.numbers.proofs.remainder.Reads as remainder-reads
use Rattle.numbers.specs.contracts.floor as floor
use Rattle.numbers.proofs.floor.Reads as floor-reads
use Rattle.numbers.specs.contracts.reduced as reduced
use Rattle.numbers.proofs.reduced.Reads as reduced-reads
use Rattle.numbers.specs.contracts.lowest as lowest
use Rattle.numbers.proofs.lowest.Reads as lowest-reads

pub below-zero-determined : Determined below-zero.ended below-zero-reads.Asked below-zero-reads.Learnt
below-zero-determined κs a asked x y p q = ap (λ z. (z, x.1)) (p ∙ sym q)

pub magnitude-determined : Determined magnitude.ended magnitude-reads.Asked magnitude-reads.Learnt
magnitude-determined κs a asked x y p q = ap (λ z. (z, x.1)) (p ∙ sym q)

pub up-from-determined : Determined up_from.ended up-from-reads.Asked up-from-reads.Learnt
up-from-determined κs a asked x y p q = ap (λ z. (z, x.1)) (p ∙ sym q)

pub with-sign-determined : Determined with-sign.ended with-sign-reads.Asked with-sign-reads.Learnt
with-sign-determined κs a asked x y p q = ap (λ z. (z, x.1)) (p ∙ sym q)

pub sum-determined : Determined sum.ended sum-reads.Asked sum-reads.Learnt
sum-determined κs a asked x y p q = ap (λ z. (z, x.1)) (p ∙ sym q)

pub difference-determined : Determined difference.ended difference-reads.Asked difference-reads.Learnt
difference-determined κs a asked x y p q = ap (λ z. (z, x.1)) (p ∙ sym q)

pub product-determined : Determined product.ended product-reads.Asked product-reads.Learnt
product-determined κs a asked x y p q = ap (λ z. (z, x.1)) (p ∙ sym q)

pub nearest-determined : Determined nearest.ended nearest-reads.Asked nearest-reads.Learnt
nearest-determined κs a asked x y p q = ap (λ z. (z, x.1)) (p ∙ sym q)

pub quotient-determined : Determined quotient.ended quotient-reads.Asked quotient-reads.Learnt
quotient-determined κs a asked x y p q = ap (λ z. (z, x.1)) (p ∙ sym q)

pub remainder-determined : Determined remainder.ended remainder-reads.Asked remainder-reads.Learnt
remainder-determined κs a asked x y p q = ap (λ z. (z, x.1)) (p ∙ sym q)

pub floor-determined : Determined floor.ended floor-reads.Asked floor-reads.Learnt
floor-determined κs a asked x y p q = ap (λ z. (z, x.1)) (p ∙ sym q)

pub reduced-determined : Determined reduced.ended reduced-reads.Asked reduced-reads.Learnt
reduced-determined κs a asked x y p q = ap (λ z. (z, x.1)) (p ∙ sym q)

-- of a fraction over 0 both are 0/1, of any other both are its lowest terms
pub lowest-determined : Determined lowest.ended lowest-reads.Asked lowest-reads.Learnt
lowest-determined κs a asked x y p q =
    let one = lowest_or-one a.0 a.1.0 p q in ap₂ (λ n d. (record { num = n; den = d }, x.1)) one.0 one.1
