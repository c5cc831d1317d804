-- What is at fault in a footage that cannot be on the film (BEHAVIOUR: Why): its frames number, or else its marker.
-- Assumes nothing.
use Rattle.faults.specs.declared.Fault.{Fault}
use Rattle.std.specs.Prelude.{ℕ, ◌%◌, Bool, cond, Option, None}
use Rattle.faults.specs.declared.Field.TheVariants.{Frames, Marker}
use Rattle.faults.specs.Faults.{under, exactly, leftmost}
use Rattle.film.specs.declared.FilmFormat.{FilmFormat}
use Rattle.film.specs.OnFilm.{frames_in_foot}

-- the marker, if the footage is marked, is feet modulo 3
unfoldable pub marker_fault : (feet : ℕ) (marked : Bool) (marker : ℕ) → Option Fault
marker_fault feet marked marker = cond marked (exactly Marker (feet % 3) marker) None

-- the frames number is one of that foot's; then the marker
unfoldable pub film_fault : FilmFormat → (feet frames : ℕ) (marked : Bool) (marker : ℕ) → Option Fault
film_fault format feet frames marked marker = leftmost (under Frames (frames_in_foot format feet) frames) (marker_fault feet marked marker)
