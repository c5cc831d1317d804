-- Each public function's contract allows one outcome: two that meet its equations are equal.
-- Assumes nothing.
use mathlib.Core.Path.{sym, ap, ◌∙◌}
use Rattle.outcomes.specs.Outcome.{Determined}
use Rattle.film.specs.contracts.FilmFormat.number as number
use Rattle.film.proofs.FilmFormat.number.Reads as number-reads
use Rattle.film.specs.contracts.FilmFormat.perfs_per_frame as perfs-per-frame
use Rattle.film.proofs.FilmFormat.perfs_per_frame.Reads as perfs-per-frame-reads
use Rattle.film.specs.contracts.FilmFormat.perfs_per_foot as perfs-per-foot
use Rattle.film.proofs.FilmFormat.perfs_per_foot.Reads as perfs-per-foot-reads
use Rattle.film.specs.contracts.FilmFormat.allows_perf_field as allows-perf-field
use Rattle.film.proofs.FilmFormat.allows_perf_field.Reads as allows-perf-field-reads
use Rattle.film.specs.contracts.format_at as format-at
use Rattle.film.proofs.format_at.Reads as format-at-reads
use Rattle.film.specs.contracts.film_fault as film-fault
use Rattle.film.proofs.film_fault.Reads as film-fault-reads
use Rattle.film.specs.contracts.footage_frames as footage-frames
use Rattle.film.proofs.footage_frames.Reads as footage-frames-reads
use Rattle.film.specs.contracts.on_film as on-film
use Rattle.film.proofs.on_film.Reads as on-film-reads
use Rattle.film.specs.contracts.footage_count as footage-count
use Rattle.film.proofs.footage_count.Reads as footage-count-reads
use Rattle.film.specs.contracts.feet_and_frames as feet-and-frames
use Rattle.film.proofs.feet_and_frames.Reads as feet-and-frames-reads

pub number-determined : Determined number.ended number-reads.Asked number-reads.Learnt
number-determined κs a asked x y p q = ap (λ z. (z, x.1)) (p ∙ sym q)

pub perfs-per-frame-determined : Determined perfs-per-frame.ended perfs-per-frame-reads.Asked perfs-per-frame-reads.Learnt
perfs-per-frame-determined κs a asked x y p q = ap (λ z. (z, x.1)) (p ∙ sym q)

pub perfs-per-foot-determined : Determined perfs-per-foot.ended perfs-per-foot-reads.Asked perfs-per-foot-reads.Learnt
perfs-per-foot-determined κs a asked x y p q = ap (λ z. (z, x.1)) (p ∙ sym q)

pub allows-perf-field-determined : Determined allows-perf-field.ended allows-perf-field-reads.Asked allows-perf-field-reads.Learnt
allows-perf-field-determined κs a asked x y p q = ap (λ z. (z, x.1)) (p ∙ sym q)

pub format-at-determined : Determined format-at.ended format-at-reads.Asked format-at-reads.Learnt
format-at-determined κs a asked x y p q = ap (λ z. (z, x.1)) (p ∙ sym q)

pub on-film-determined : Determined on-film.ended on-film-reads.Asked on-film-reads.Learnt
on-film-determined κs a asked x y p q = ap (λ z. (z, x.1)) (p ∙ sym q)

pub footage-count-determined : Determined footage-count.ended footage-count-reads.Asked footage-count-reads.Learnt
footage-count-determined κs a asked x y p q = ap (λ z. (z, x.1)) (p ∙ sym q)

pub feet-and-frames-determined : Determined feet-and-frames.ended feet-and-frames-reads.Asked feet-and-frames-reads.Learnt
feet-and-frames-determined κs a asked x y p q = ap (λ z. (z, x.1)) (p ∙ sym q)

pub film-fault-determined : Determined film-fault.ended film-fault-reads.Asked film-fault-reads.Learnt
film-fault-determined κs a asked x y p q = ap (λ z. (z, x.1)) (p ∙ sym q)

pub footage-frames-determined : Determined footage-frames.ended footage-frames-reads.Asked footage-frames-reads.Learnt
footage-frames-determined κs a asked x y p q = ap (λ z. (z, x.1)) (p ∙ sym q)
