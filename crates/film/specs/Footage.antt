-- Footage (BEHAVIOUR: Footage): the count of feet and frames, and the feet and frames of a count.
-- Assumes nothing.
use Rattle.std.specs.Prelude.{◌≡◌, cond, ◌&&◌, ℕ, ◌+◌, ◌-◌, ◌*◌, ◌/◌, ◌%◌, ◌≤◌, ◌<◌, leb, ltb}
use Rattle.std.proofs.Common.{le-leb, lt-ltb, le-ltb}
use Rattle.answers.specs.Refusals.{most_count, beyond}
use Rattle.film.specs.declared.FilmFormat.{FilmFormat}
use Rattle.film.specs.declared.FilmFormat.TheVariants.{FF35mm4perf, FF35mm3perf, FF35mm2perf, FF16mm}
use Rattle.film.specs.declared.Footage.{Footage}
use Rattle.film.specs.Film.{perfs_per_frame_of, perfs_per_foot_of}

-- reading: 3-perf counts 64 frames for each three whole feet and 21 for each left over; the others count 16, 32 or 20 a foot
abbrev pub feet_count : FilmFormat → (feet : ℕ) → ℕ
feet_count FF35mm4perf feet = 16 * feet
feet_count FF35mm3perf feet = 64 * (feet / 3) + 21 * (feet % 3)
feet_count FF35mm2perf feet = 32 * feet
feet_count FF16mm feet = 20 * feet

-- then add frames
unfoldable pub footage_count : FilmFormat → (feet frames : ℕ) → ℕ
footage_count format feet frames = feet_count format feet + frames

-- the same of feet and frames of at most 9 digits; for others, whose count is no less, a number beyond all bounds
unfoldable pub footage_or : FilmFormat → (feet frames : ℕ) → ℕ
footage_or format feet frames = cond (ltb feet beyond && ltb frames beyond) (footage_count format feet frames) beyond

pub footage_or-in : (format : FilmFormat) (feet frames : ℕ) → feet < beyond → frames < beyond → footage_or format feet frames ≡ footage_count format feet frames
unfolding footage_or
footage_or-in format feet frames h k = rw (lt-ltb feet beyond h, lt-ltb frames beyond k)

pub footage_or-feet : (format : FilmFormat) (feet frames : ℕ) → beyond ≤ feet → footage_or format feet frames ≡ beyond
unfolding footage_or
footage_or-feet format feet frames h = rw (le-ltb feet beyond h)

pub footage_or-frames : (format : FilmFormat) (feet frames : ℕ) → feet < beyond → beyond ≤ frames → footage_or format feet frames ≡ beyond
unfolding footage_or
footage_or-frames format feet frames h k = rw (lt-ltb feet beyond h, le-ltb frames beyond k)

-- writing an absolute count f: the last perf is f x P + P - 1
abbrev pub last_perf : (f P : ℕ) → ℕ
last_perf f P = f * P + P - 1

-- feet is that over the perfs a foot; frames the rest over P; the marker is feet modulo 3
abbrev pub footage_by : (f P foot : ℕ) → Footage
footage_by f P foot =
    record {
      feet = last_perf f P / foot;
      frames = last_perf f P % foot / P;
      perf = last_perf f P / foot % 3;
    }

unfoldable pub footage_of : FilmFormat → (f : ℕ) → Footage
footage_of format f = footage_by f (perfs_per_frame_of format) (perfs_per_foot_of format)

-- the same of a count within its bounds; zeros beyond them
unfoldable pub footage_in : FilmFormat → (f : ℕ) → Footage
footage_in format f = cond (leb f most_count) (footage_of format f) (record { feet = 0; frames = 0; perf = 0 })

pub footage_in-in : (format : FilmFormat) (f : ℕ) → f ≤ most_count → footage_in format f ≡ footage_of format f
unfolding footage_in
footage_in-in format f h = rw (le-leb f most_count h)
