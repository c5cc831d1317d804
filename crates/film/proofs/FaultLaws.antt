-- What is told of the leftmost fault of a footage (BEHAVIOUR: Why): there is none just where it can be on the film.
-- Assumes nothing.
use Rattle.std.specs.Prelude.{ℕ, ◌%◌, ◌≡◌, refl, Bool, true, false, not, ◌&&◌, ◌||◌, eqb}
use Rattle.std.proofs.Common.{ap₂, ◌∙◌}
use Rattle.faults.specs.declared.Field.TheVariants.{Frames, Marker}
use Rattle.faults.specs.Faults.{is_none, under}
use Rattle.faults.specs.FaultLaws.{under_none, exactly-none, leftmost-none}
use Rattle.film.specs.declared.FilmFormat.{FilmFormat}
use Rattle.film.specs.OnFilm.{frames_in_foot, on_film}
use Rattle.film.specs.Faults.{marker_fault, film_fault}

pub marker_fault-none : (feet : ℕ) (marked : Bool) (marker : ℕ) → is_none (marker_fault feet marked marker) ≡ (not marked || eqb marker (feet % 3))
unfolding marker_fault
marker_fault-none feet true marker = exactly-none Marker (feet % 3) marker
marker_fault-none feet false marker = refl

pub film_fault-none : (format : FilmFormat) (feet frames : ℕ) (marked : Bool) (marker : ℕ)
    → is_none (film_fault format feet frames marked marker) ≡ on_film format feet frames marked marker
unfolding film_fault on_film
film_fault-none format feet frames marked marker =
    leftmost-none (under Frames (frames_in_foot format feet) frames) (marker_fault feet marked marker)
    ∙ ap₂ ◌&&◌ (under_none Frames (frames_in_foot format feet) frames) (marker_fault-none feet marked marker)
