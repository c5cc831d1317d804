-- Each public function's contract allows one outcome: two that meet its equation are equal.
-- Assumes nothing.
use mathlib.Core.Path.{sym, ap, ◌∙◌}
use Rattle.outcomes.specs.Outcome.{Determined}
use Rattle.shot_lists.specs.contracts.disk.record_at as record_at
use Rattle.shot_lists.proofs.disk.record_at.Reads as record-at-reads
use Rattle.shot_lists.specs.contracts.disk.check_list as check_list
use Rattle.shot_lists.proofs.disk.check_list.Reads as check-list-reads
use Rattle.shot_lists.specs.contracts.given.given_at as given_at
use Rattle.shot_lists.proofs.given.given_at.Reads as given-at-reads

pub record-at-determined : Determined record_at.ended record-at-reads.Asked record-at-reads.Learnt
record-at-determined κs a asked x y p q = ap (λ z. (z, x.1)) (p ∙ sym q)

pub check-list-determined : Determined check_list.ended check-list-reads.Asked check-list-reads.Learnt
check-list-determined κs a asked x y p q = ap (λ z. (z, x.1)) (p ∙ sym q)

pub given-at-determined : Determined given_at.ended given-at-reads.Asked given-at-reads.Learnt
given-at-determined κs a asked x y p q = ap (λ z. (z, x.1)) (p ∙ sym q)
