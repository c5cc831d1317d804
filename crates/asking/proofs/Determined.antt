-- Each public function's contract allows one outcome: two that meet its equation are equal.
-- Assumes nothing.
use mathlib.Core.Path.{sym, ap, ◌∙◌}
use Rattle.outcomes.specs.Outcome.{Determined}
use Rattle.asking.specs.contracts.numbered.numbers_of as Numbers-of
use Rattle.asking.proofs.numbered.numbers_of.Reads as numbers-of-reads
use Rattle.asking.specs.contracts.numbered.rates as rates
use Rattle.asking.proofs.numbered.rates.Reads as rates-reads
use Rattle.asking.specs.contracts.recorded.records as records
use Rattle.asking.proofs.recorded.records.Reads as records-reads
use Rattle.asking.specs.contracts.sharded.shards as shards
use Rattle.asking.proofs.sharded.shards.Reads as shards-reads
use Rattle.asking.specs.contracts.values.number as number
use Rattle.asking.proofs.values.number.Reads as number-reads
use Rattle.asking.specs.contracts.values.signed_at as signed-at
use Rattle.asking.proofs.values.signed_at.Reads as signed-at-reads
use Rattle.asking.specs.contracts.values.stands as stands
use Rattle.asking.proofs.values.stands.Reads as stands-reads
use Rattle.asking.specs.contracts.values.word_stands as word_Stands
use Rattle.asking.proofs.values.word_stands.Reads as word-stands-reads
use Rattle.asking.specs.contracts.words.understand as understand
use Rattle.asking.proofs.words.understand.Reads as understand-reads

pub number-determined : Determined number.ended number-reads.Asked number-reads.Learnt
number-determined κs a asked x y p q = ap (λ z. (z, x.1)) (p ∙ sym q)

pub signed-at-determined : Determined signed-at.ended signed-at-reads.Asked signed-at-reads.Learnt
signed-at-determined κs a asked x y p q = ap (λ z. (z, x.1)) (p ∙ sym q)

pub stands-determined : Determined stands.ended stands-reads.Asked stands-reads.Learnt
stands-determined κs a asked x y p q = ap (λ z. (z, x.1)) (p ∙ sym q)

pub word-stands-determined : Determined word_Stands.ended word-stands-reads.Asked word-stands-reads.Learnt
word-stands-determined κs a asked x y p q = ap (λ z. (z, x.1)) (p ∙ sym q)

pub understand-determined : Determined understand.ended understand-reads.Asked understand-reads.Learnt
understand-determined κs a asked x y p q = ap (λ z. (z, x.1)) (p ∙ sym q)

pub numbers-of-determined : Determined Numbers-of.ended numbers-of-reads.Asked numbers-of-reads.Learnt
numbers-of-determined κs a asked x y p q = ap (λ z. (z, x.1)) (p ∙ sym q)

pub rates-determined : Determined rates.ended rates-reads.Asked rates-reads.Learnt
rates-determined κs a asked x y p q =
    ap (λ z. (z, x.1)) (p.0 ∙ sym q.0) ∙ ap (λ z. (y.0, (x.1.0, (x.1.1.0, (z, x.1.1.1.1))))) (p.1 ∙ sym q.1)

pub records-determined : Determined records.ended records-reads.Asked records-reads.Learnt
records-determined κs a asked x y p q =
    ap (λ z. (z, x.1)) (p.0 ∙ sym q.0) ∙ ap (λ z. (y.0, (x.1.0, (x.1.1.0, (z, x.1.1.1.1))))) (p.1 ∙ sym q.1)

pub shards-determined : Determined shards.ended shards-reads.Asked shards-reads.Learnt
shards-determined κs a asked x y p q =
    ap (λ z. (z, x.1)) (p.0 ∙ sym q.0)
    ∙ ap (λ z. (y.0, (x.1.0, (x.1.1.0, (z, x.1.1.1.1))))) (p.1.0 ∙ sym q.1.0)
    ∙ ap (λ z. (y.0, (x.1.0, (x.1.1.0, (y.1.1.1.0, (z, x.1.1.1.1.1)))))) (p.1.1 ∙ sym q.1.1)
