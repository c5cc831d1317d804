-- Film formats (BEHAVIOUR: Footage): formats 1 to 4: 4-perf, 3-perf, 2-perf on 35 mm (64 perfs a foot), and 16 mm (1 perf a frame, 20 a logical foot).
-- Assumes nothing.
use Rattle.answers.specs.declared.Refusal.{Refusal}
use Rattle.std.specs.Prelude.{ℕ, ◌-◌, ◌%◌, Bool, not, ◌&&◌, List, [], ◌∷◌, leb, eqb, get_or, Result, Ok, Err}
use Rattle.answers.specs.Order.{Condition, when, unless}
use Rattle.answers.specs.Refusals.{no_such}
pub use Rattle.answers.specs.Refusals.{number_of}
use Rattle.film.specs.declared.FilmFormat.{FilmFormat}
use Rattle.film.specs.declared.FilmFormat.TheVariants.{FF35mm4perf, FF35mm3perf, FF35mm2perf, FF16mm}

-- formats 1 to 4
abbrev pub format_number : FilmFormat → ℕ
format_number FF35mm4perf = 1
format_number FF35mm3perf = 2
format_number FF35mm2perf = 3
format_number FF16mm = 4

-- P, the perfs a frame
abbrev pub perfs_per_frame_of : FilmFormat → ℕ
perfs_per_frame_of FF35mm4perf = 4
perfs_per_frame_of FF35mm3perf = 3
perfs_per_frame_of FF35mm2perf = 2
perfs_per_frame_of FF16mm = 1

-- the perfs a foot
abbrev pub perfs_per_foot_of : FilmFormat → ℕ
perfs_per_foot_of FF35mm4perf = 64
perfs_per_foot_of FF35mm3perf = 64
perfs_per_foot_of FF35mm2perf = 64
perfs_per_foot_of FF16mm = 20

-- a format has a perf field where a foot is no whole number of frames
abbrev pub allows_perf_field : FilmFormat → Bool
allows_perf_field format = not (eqb (perfs_per_foot_of format % perfs_per_frame_of format) 0)

-- a film format is a number from 1 to 4
unfoldable pub is_format : ℕ → Bool
is_format n = leb 1 n && leb n 4

-- in the order of their numbers
abbrev pub formats : List FilmFormat
formats = FF35mm4perf ∷ FF35mm3perf ∷ FF35mm2perf ∷ FF16mm ∷ []

-- 6: no such film format (1 to 4)
abbrev pub bad_format : (format : ℕ) → Condition
bad_format format = when no_such (not (is_format format))

-- the format of a number (4-perf stands for one that has none, which is refused before)
abbrev pub format_in : (format : ℕ) → FilmFormat
format_in format = get_or formats (format - 1) FF35mm4perf

unfoldable pub format_at : ℕ → Result FilmFormat Refusal
format_at n = unless Err (bad_format n ∷ []) (Ok (format_in n))

-- the film format's number of an answer (a refusal's is 0)
abbrev pub format_of : Result FilmFormat Refusal → ℕ
format_of (Ok format) = format_number format
format_of (Err e) = 0
