-- Each public function's contract allows one outcome: two that meet its equation are equal, and an instant has one fraction of seconds.
-- Assumes nothing.
use mathlib.Core.Path.{sym, ap, ◌∙◌}
use Rattle.outcomes.specs.Outcome.{Determined}
use Rattle.time.specs.SecondsLaws.{seconds-one}
use Rattle.time.specs.contracts.is_fraction as is-fraction
use Rattle.time.proofs.is_fraction.Reads as is-fraction-reads
use Rattle.time.specs.contracts.with_frames as with_frames
use Rattle.time.proofs.with_frames.Reads as with-frames-reads
use Rattle.time.specs.contracts.with_premiere_ticks as with_premiere_ticks
use Rattle.time.proofs.with_premiere_ticks.Reads as with-premiere-ticks-reads
use Rattle.time.specs.contracts.with_seconds as with_seconds
use Rattle.time.proofs.with_seconds.Reads as with-seconds-reads
use Rattle.time.specs.contracts.premiere_ticks as premiere_ticks
use Rattle.time.proofs.premiere_ticks.Reads as premiere-ticks-reads
use Rattle.time.specs.contracts.seconds as seconds
use Rattle.time.proofs.seconds.Reads as seconds-reads

pub is-fraction-determined : Determined is-fraction.ended is-fraction-reads.Asked is-fraction-reads.Learnt
is-fraction-determined κs a asked x y p q = ap (λ z. (z, x.1)) (p ∙ sym q)

pub with-frames-determined : Determined with_frames.ended with-frames-reads.Asked with-frames-reads.Learnt
with-frames-determined κs a asked x y p q = ap (λ z. (z, x.1)) (p ∙ sym q)

pub with-premiere-ticks-determined : Determined with_premiere_ticks.ended with-premiere-ticks-reads.Asked with-premiere-ticks-reads.Learnt
with-premiere-ticks-determined κs a asked x y p q = ap (λ z. (z, x.1)) (p ∙ sym q)

pub with-seconds-determined : Determined with_seconds.ended with-seconds-reads.Asked with-seconds-reads.Learnt
with-seconds-determined κs a asked x y p q = ap (λ z. (z, x.1)) (p ∙ sym q)

pub premiere-ticks-determined : Determined premiere_ticks.ended premiere-ticks-reads.Asked premiere-ticks-reads.Learnt
premiere-ticks-determined κs a asked x y p q = ap (λ z. (z, x.1)) (p ∙ sym q)

pub seconds-determined : Determined seconds.ended seconds-reads.Asked seconds-reads.Learnt
seconds-determined κs a asked x y p q = ap (λ z. (z, x.1)) (seconds-one a.0 x.0 y.0 p q)
