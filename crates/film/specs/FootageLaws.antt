-- Laws of footage that callers cite (BEHAVIOUR: Footage): the bounds of what is counted and of what is written.
-- Assumes nothing.
use Rattle.std.specs.Prelude.{ℕ, ◌+◌, ◌*◌, ◌%◌, ◌≤◌, ◌<◌, ◌≡◌, refl}
use Rattle.std.proofs.Common.{mul-le-mul_left, arith}
use Rattle.film.specs.declared.FilmFormat.{FilmFormat}
use Rattle.film.specs.declared.FilmFormat.TheVariants.{FF35mm4perf, FF35mm3perf, FF35mm2perf, FF16mm}
use Rattle.film.specs.Film.{perfs_per_frame_of}
use Rattle.film.specs.Footage.{footage_count, footage_of}
use Rattle.film.specs.FormatLaws.{frame-perfs}

-- no format counts more than 32 frames a foot
pub count-le : (format : FilmFormat) (feet frames : ℕ) → footage_count format feet frames ≤ 32 * feet + frames
unfolding footage_count
count-le FF35mm4perf feet frames = omega arith
count-le FF35mm3perf feet frames = omega arith
count-le FF35mm2perf feet frames = omega arith
count-le FF16mm feet frames = omega arith

-- nor less than one a foot, so a count is no less than its feet or its frames
pub count-ge :
    (format : FilmFormat) (feet frames : ℕ)
    → (feet ≤ footage_count format feet frames) × (frames ≤ footage_count format feet frames)
unfolding footage_count
count-ge FF35mm4perf feet frames = (omega arith, omega arith)
count-ge FF35mm3perf feet frames = (omega arith, omega arith)
count-ge FF35mm2perf feet frames = (omega arith, omega arith)
count-ge FF16mm feet frames = (omega arith, omega arith)

-- the frames of a count, and the last one's perfs, are at most four times as many perfs
pub perfs-le : (format : FilmFormat) (f P : ℕ) → P ≡ perfs_per_frame_of format → (0 < P) × (f * P + P ≤ 4 * f + 4)
perfs-le format f P e =
    let p = frame-perfs format in
    let few : P ≤ 4 = omega arith in
    (omega arith, omega (arith, mul-le-mul_left f few))

-- what is written has no more feet than the count has frames, at most 31 frames, and a marker below 3
pub feet-le : (format : FilmFormat) (f : ℕ) → (footage_of format f).feet ≤ f
unfolding footage_of
feet-le FF35mm4perf f = omega arith
feet-le FF35mm3perf f = omega arith
feet-le FF35mm2perf f = omega arith
feet-le FF16mm f = omega arith

pub frames-le : (format : FilmFormat) (f : ℕ) → (footage_of format f).frames ≤ 31
unfolding footage_of
frames-le FF35mm4perf f = omega arith
frames-le FF35mm3perf f = omega arith
frames-le FF35mm2perf f = omega arith
frames-le FF16mm f = omega arith

-- which is feet modulo 3
pub perf-modulo : (format : FilmFormat) (f : ℕ) → (footage_of format f).perf ≡ (footage_of format f).feet % 3
unfolding footage_of
perf-modulo format f = refl

pub perf-lt : (format : FilmFormat) (f : ℕ) → (footage_of format f).perf < 3
unfolding footage_of
perf-lt format f = omega arith
