-- Each public function's contract allows one outcome: two that meet its equation are equal.
-- Assumes nothing.
use mathlib.Core.Path.{sym, ap, ◌∙◌}
use denote.RattleType.{RattleType}
use denote.Param.Laws.{Laws}
use Rattle.outcomes.specs.Outcome.{Determined}
use Rattle.answers.specs.contracts.at_place as at_place
use Rattle.answers.proofs.at_place.Reads as at-place-reads
use Rattle.answers.specs.contracts.is_count as is-count
use Rattle.answers.proofs.is_count.Reads as is-count-reads
use Rattle.answers.specs.contracts.held as held
use Rattle.answers.proofs.held.Reads as held_reads
use Rattle.answers.specs.contracts.nearest_count as nearest-count
use Rattle.answers.proofs.nearest_count.Reads as nearest-count-reads
use Rattle.answers.specs.contracts.Cause.number as cause-number
use Rattle.answers.proofs.Cause.number.Reads as cause-number-reads
use Rattle.answers.specs.contracts.number as number
use Rattle.answers.proofs.number.Reads as number-reads
use Rattle.answers.specs.contracts.count as count
use Rattle.answers.proofs.count.Reads as count-reads

pub at-place-determined : Determined at_place.ended at-place-reads.Asked at-place-reads.Learnt
at-place-determined κs a asked x y p q = ap (λ z. (z, x.1)) (p ∙ sym q)

pub is-count-determined : Determined is-count.ended is-count-reads.Asked is-count-reads.Learnt
is-count-determined κs a asked x y p q = ap (λ z. (z, x.1)) (p ∙ sym q)

pub held-determined : Determined held.ended held_reads.Asked held_reads.Learnt
held-determined κs a asked x y p q = ap (λ z. (z, x.1)) (p ∙ sym q)

pub nearest-count-determined : Determined nearest-count.ended nearest-count-reads.Asked nearest-count-reads.Learnt
nearest-count-determined κs a asked x y p q = ap (λ z. (z, x.1)) (p ∙ sym q)

pub number-determined : (T : RattleType) (laws : Laws T) → Determined (number.ended T) (number-reads.Asked T laws) (number-reads.Learnt T laws)
number-determined T laws κs a asked x y p q = ap (λ z. (z, x.1)) (p ∙ sym q)

pub count-determined : Determined count.ended count-reads.Asked count-reads.Learnt
count-determined κs a asked x y p q = ap (λ z. (z, x.1)) (p ∙ sym q)

pub cause-number-determined : Determined cause-number.ended cause-number-reads.Asked cause-number-reads.Learnt
cause-number-determined κs a asked x y p q = ap (λ z. (z, x.1)) (p ∙ sym q)
