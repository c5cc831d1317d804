-- Each public function's contract allows one outcome: two that meet its equation are equal.
-- Assumes nothing.
use mathlib.Core.Path.{sym, ap, ◌∙◌}
use Rattle.outcomes.specs.Outcome.{Determined}
use Rattle.timecodes.specs.contracts.kinds.Kind.from as from
use Rattle.timecodes.proofs.kinds.Kind.from.Reads as from-reads
use Rattle.timecodes.specs.contracts.kinds.Kind.is_position as is-position
use Rattle.timecodes.proofs.kinds.Kind.is_position.Reads as is-position-reads
use Rattle.timecodes.specs.contracts.new as new
use Rattle.timecodes.proofs.new.Reads as new-reads
use Rattle.timecodes.specs.contracts.admit as admit
use Rattle.timecodes.proofs.admit.Reads as admit-reads
use Rattle.timecodes.specs.contracts.admit_length as admit-length
use Rattle.timecodes.proofs.admit_length.Reads as admit-length-reads
use Rattle.timecodes.specs.contracts.admit_both as admit-both
use Rattle.timecodes.proofs.admit_both.Reads as admit-both-reads
use Rattle.timecodes.specs.contracts.placed as placed
use Rattle.timecodes.proofs.placed.Reads as placed-reads
use Rattle.timecodes.specs.contracts.moved as moved
use Rattle.timecodes.proofs.moved.Reads as moved-reads
use Rattle.timecodes.specs.contracts.made as made
use Rattle.timecodes.proofs.made.Reads as made_reads
use Rattle.timecodes.specs.contracts.settled as settled
use Rattle.timecodes.proofs.settled.Reads as settled-reads
use Rattle.timecodes.specs.contracts.instant_of as instant-of
use Rattle.timecodes.proofs.instant_of.Reads as instant-of-reads
use Rattle.timecodes.specs.contracts.timecode_of as timecode-of
use Rattle.timecodes.proofs.timecode_of.Reads as timecode-of-reads

pub from-determined : Determined from.ended from-reads.Asked from-reads.Learnt
from-determined κs a asked x y p q = ap (λ z. (z, x.1)) (p ∙ sym q)

pub is-position-determined : Determined is-position.ended is-position-reads.Asked is-position-reads.Learnt
is-position-determined κs a asked x y p q = ap (λ z. (z, x.1)) (p ∙ sym q)

pub new-determined : Determined new.ended new-reads.Asked new-reads.Learnt
new-determined κs a asked x y p q = ap (λ z. (z, x.1)) (p ∙ sym q)

pub admit-determined : Determined admit.ended admit-reads.Asked admit-reads.Learnt
admit-determined κs a asked x y p q = ap (λ z. (z, x.1)) (p ∙ sym q)

pub admit-length-determined : Determined admit-length.ended admit-length-reads.Asked admit-length-reads.Learnt
admit-length-determined κs a asked x y p q = ap (λ z. (z, x.1)) (p ∙ sym q)

pub admit-both-determined : Determined admit-both.ended admit-both-reads.Asked admit-both-reads.Learnt
admit-both-determined κs a asked x y p q = ap (λ z. (z, x.1)) (p ∙ sym q)

pub placed-determined : Determined placed.ended placed-reads.Asked placed-reads.Learnt
placed-determined κs a asked x y p q = ap (λ z. (z, x.1)) (p ∙ sym q)

pub moved-determined : Determined moved.ended moved-reads.Asked moved-reads.Learnt
moved-determined κs a asked x y p q = ap (λ z. (z, x.1)) (p ∙ sym q)

pub made-determined : Determined made.ended made_reads.Asked made_reads.Learnt
made-determined κs a asked x y p q = ap (λ z. (z, x.1)) (p ∙ sym q)

pub settled-determined : Determined settled.ended settled-reads.Asked settled-reads.Learnt
settled-determined κs a asked x y p q = ap (λ z. (z, x.1)) (p ∙ sym q)

pub instant-of-determined : Determined instant-of.ended instant-of-reads.Asked instant-of-reads.Learnt
instant-of-determined κs a asked x y p q = ap (λ z. (z, x.1)) (p ∙ sym q)

pub timecode-of-determined : Determined timecode-of.ended timecode-of-reads.Asked timecode-of-reads.Learnt
timecode-of-determined κs a asked x y p q = ap (λ z. (z, x.1)) (p ∙ sym q)
