-- Each public function's contract allows one outcome: two that meet its equations are equal.
-- Assumes nothing.
use mathlib.Core.Path.{sym, ap, ◌∙◌}
use Rattle.outcomes.specs.Outcome.{Determined}
use Rattle.arithmetic.specs.contracts.add as add
use Rattle.arithmetic.proofs.add.Reads as add_reads
use Rattle.arithmetic.specs.contracts.sub as sub
use Rattle.arithmetic.proofs.sub.Reads as sub-reads
use Rattle.arithmetic.specs.contracts.mul as mul
use Rattle.arithmetic.proofs.mul.Reads as mul-reads
use Rattle.arithmetic.specs.contracts.div as div
use Rattle.arithmetic.proofs.div.Reads as div-reads
use Rattle.arithmetic.specs.contracts.rem as rem
use Rattle.arithmetic.proofs.rem.Reads as rem-reads
use Rattle.arithmetic.specs.contracts.divq as divq
use Rattle.arithmetic.proofs.divq.Reads as divq-reads
use Rattle.arithmetic.specs.contracts.remq as remq
use Rattle.arithmetic.proofs.remq.Reads as remq-reads
use Rattle.arithmetic.specs.contracts.cmp as cmp
use Rattle.arithmetic.proofs.cmp.Reads as cmp-reads
use Rattle.arithmetic.specs.contracts.neg as neg
use Rattle.arithmetic.proofs.neg.Reads as neg-reads
use Rattle.arithmetic.specs.contracts.abs as abs
use Rattle.arithmetic.proofs.abs.Reads as abs-reads
use Rattle.arithmetic.specs.contracts.rebase as rebase
use Rattle.arithmetic.proofs.rebase.Reads as rebase-reads

pub add-determined : Determined add.ended add_reads.Asked add_reads.Learnt
add-determined κs a asked x y p q = ap (λ z. (z, x.1)) (p ∙ sym q)

pub sub-determined : Determined sub.ended sub-reads.Asked sub-reads.Learnt
sub-determined κs a asked x y p q = ap (λ z. (z, x.1)) (p ∙ sym q)

pub mul-determined : Determined mul.ended mul-reads.Asked mul-reads.Learnt
mul-determined κs a asked x y p q = ap (λ z. (z, x.1)) (p ∙ sym q)

pub div-determined : Determined div.ended div-reads.Asked div-reads.Learnt
div-determined κs a asked x y p q = ap (λ z. (z, x.1)) (p ∙ sym q)

pub rem-determined : Determined rem.ended rem-reads.Asked rem-reads.Learnt
rem-determined κs a asked x y p q = ap (λ z. (z, x.1)) (p ∙ sym q)

pub divq-determined : Determined divq.ended divq-reads.Asked divq-reads.Learnt
divq-determined κs a asked x y p q = ap (λ z. (z, x.1)) (p ∙ sym q)

pub remq-determined : Determined remq.ended remq-reads.Asked remq-reads.Learnt
remq-determined κs a asked x y p q = ap (λ z. (z, x.1)) (p ∙ sym q)

pub cmp-determined : Determined cmp.ended cmp-reads.Asked cmp-reads.Learnt
cmp-determined κs a asked x y p q = ap (λ z. (z, x.1)) (p ∙ sym q)

pub neg-determined : Determined neg.ended neg-reads.Asked neg-reads.Learnt
neg-determined κs a asked x y p q = ap (λ z. (z, x.1)) (p ∙ sym q)

pub abs-determined : Determined abs.ended abs-reads.Asked abs-reads.Learnt
abs-determined κs a asked x y p q = ap (λ z. (z, x.1)) (p ∙ sym q)

pub rebase-determined : Determined rebase.ended rebase-reads.Asked rebase-reads.Learnt
rebase-determined κs a asked x y p q = ap (λ z. (z, x.1)) (p ∙ sym q)
