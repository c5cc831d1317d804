-- Each public function's contract allows one outcome: two that meet its equations are equal.
-- Assumes nothing.
use mathlib.Core.Path.{sym, ap, ◌∙◌}
use Rattle.outcomes.specs.Outcome.{Determined}
use Rattle.rates.specs.contracts.is_rate as is-rate
use Rattle.rates.proofs.is_rate.Reads as is-rate-reads
use Rattle.rates.specs.contracts.row as row
use Rattle.rates.proofs.row.Reads as row_reads
use Rattle.rates.specs.contracts.framerate_at as framerate_at
use Rattle.rates.proofs.framerate_at.Reads as framerate-at-reads
use Rattle.rates.specs.contracts.drop_frames_per_minute as drop-frames-per-minute
use Rattle.rates.proofs.drop_frames_per_minute.Reads as drop-frames-per-minute-reads
use Rattle.rates.specs.contracts.day as day
use Rattle.rates.proofs.day.Reads as day-reads
use Rattle.rates.specs.contracts.is_drop as is-drop
use Rattle.rates.proofs.is_drop.Reads as is-drop-reads

pub is-rate-determined : Determined is-rate.ended is-rate-reads.Asked is-rate-reads.Learnt
is-rate-determined κs a asked x y p q = ap (λ z. (z, x.1)) (p ∙ sym q)

pub row-determined : Determined row.ended row_reads.Asked row_reads.Learnt
row-determined κs a asked x y p q = ap (λ z. (z, x.1)) (p ∙ sym q)

pub framerate-at-determined : Determined framerate_at.ended framerate-at-reads.Asked framerate-at-reads.Learnt
framerate-at-determined κs a asked x y p q = ap (λ z. (z, x.1)) (p ∙ sym q)

pub drop-frames-per-minute-determined : Determined drop-frames-per-minute.ended drop-frames-per-minute-reads.Asked drop-frames-per-minute-reads.Learnt
drop-frames-per-minute-determined κs a asked x y p q = ap (λ z. (z, x.1)) (p ∙ sym q)

pub day-determined : Determined day.ended day-reads.Asked day-reads.Learnt
day-determined κs a asked x y p q = ap (λ z. (z, x.1)) (p ∙ sym q)

pub is-drop-determined : Determined is-drop.ended is-drop-reads.Asked is-drop-reads.Learnt
is-drop-determined κs a asked x y p q = ap (λ z. (z, x.1)) (p ∙ sym q)
