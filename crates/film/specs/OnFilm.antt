-- Footages that can be on the film (BEHAVIOUR: Footage): the frames that a foot has, and the marker of a foot.
-- Assumes nothing.
use Rattle.std.specs.Prelude.{ℕ, ◌%◌, Bool, not, cond, ◌&&◌, ◌||◌, eqb, ltb}
use Rattle.answers.specs.Order.{Condition, when}
use Rattle.answers.specs.Refusals.{not_on_film}
use Rattle.film.specs.declared.FilmFormat.{FilmFormat}
use Rattle.film.specs.declared.FilmFormat.TheVariants.{FF35mm4perf, FF35mm3perf, FF35mm2perf, FF16mm}

-- the foot leaves 2 modulo 3
abbrev pub leaves_two : (feet : ℕ) → Bool
leaves_two feet = eqb (feet % 3) 2

-- 21 frames in 3-perf feet that leave 0 or 1 modulo 3, 22 in those that leave 2; 16, 32 and 20 a foot in the others
abbrev pub frames_in_foot : FilmFormat → (feet : ℕ) → ℕ
frames_in_foot FF35mm4perf feet = 16
frames_in_foot FF35mm3perf feet = cond (leaves_two feet) 22 21
frames_in_foot FF35mm2perf feet = 32
frames_in_foot FF16mm feet = 20

-- the frames number occurs in that foot, and the marker, if the footage is marked, is feet modulo 3, by value
unfoldable pub on_film : FilmFormat → (feet frames : ℕ) (marked : Bool) (marker : ℕ) → Bool
on_film format feet frames marked marker = ltb frames (frames_in_foot format feet) && (not marked || eqb marker (feet % 3))

-- 13: a footage that cannot be on the film
abbrev pub bad_footage : FilmFormat → (feet frames : ℕ) (marked : Bool) (marker : ℕ) → Condition
bad_footage format feet frames marked marker = when not_on_film (not (on_film format feet frames marked marker))
