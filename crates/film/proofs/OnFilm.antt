-- The frames that occur in a foot, by the writing formula, are those below the number of frames that the foot has.
-- Assumes nothing.
use Prim.Native.Nat.{ℕ, zero, suc, ◌+◌, ◌-◌, ◌*◌, ◌/◌, ◌%◌, ◌<◌}
use native.Mathlib.Omega.{arith}
use mathlib.Core.Path.{◌≡◌, refl, subst}
use mathlib.Core.Bool.{Bool, true, false, cond}
use borrow.Author.Tests.{ltb-true, ltb-false, eqb-true, eqb-false}
use lib.Dec.{ltb}
use Rattle.film.specs.declared.FilmFormat.{FilmFormat}
use Rattle.film.specs.declared.FilmFormat.TheVariants.{FF35mm4perf, FF35mm3perf, FF35mm2perf, FF16mm}
use Rattle.film.specs.Footage.{footage_count, last_perf, footage_of}
use Rattle.film.specs.OnFilm.{leaves_two, frames_in_foot}
use Rattle.film.specs.Statements.{Occurs}

-- ---- 3-perf feet
pub three-perf-two : (feet : ℕ) → feet % 3 ≡ 2 → frames_in_foot FF35mm3perf feet ≡ 22
three-perf-two feet h = by (leaves_two feet) refl
  where
    by : (t : Bool) → leaves_two feet ≡ t → ◌≡◌ {A = ℕ} (cond t 22 21) 22
    by true e = refl
    by false e = let other = eqb-false (feet % 3) _ e in absurd (omega (arith, other))

pub three-perf-other : (feet : ℕ) → feet % 3 < 2 → frames_in_foot FF35mm3perf feet ≡ 21
three-perf-other feet h = by (leaves_two feet) refl
  where
    by : (t : Bool) → leaves_two feet ≡ t → ◌≡◌ {A = ℕ} (cond t 22 21) 21
    by true e = absurd (omega (arith, eqb-true (feet % 3) _ e))
    by false e = refl

-- ---- what is written occurs
-- in 3-perf a frame ends with a foot's last perf only where the foot leaves 2 modulo 3
ends-with-foot : (f feet left : ℕ) → left < 2 → f * 3 + 2 ≡ 64 * (3 * feet + left) + 63 → ⊥
ends-with-foot f feet zero h e = omega arith
ends-with-foot f feet (suc zero) h e = omega arith
ends-with-foot f feet (suc (suc left)) h e = omega arith

-- the frames number that a count is written with is below that of its foot
three-below : (f : ℕ) (t : Bool) → leaves_two (last_perf f 3 / 64) ≡ t → last_perf f 3 % 64 / 3 < cond t 22 21
three-below f true e = omega arith
three-below f false e = by (ltb (last_perf f 3 % 64 / 3) 21) refl
  where
    by : (t : Bool) → ltb (last_perf f 3 % 64 / 3) 21 ≡ t → last_perf f 3 % 64 / 3 < 21
    by true less = ltb-true (last_perf f 3 % 64 / 3) 21 less
    by false past =
        let other = eqb-false (last_perf f 3 / 64 % 3) _ e in
        let left : last_perf f 3 / 64 % 3 < 2 = omega (arith, other) in
        let last : last_perf f 3 % 64 ≡ 63 = omega (arith, ltb-false (last_perf f 3 % 64 / 3) 21 past) in
        absurd (ends-with-foot f (last_perf f 3 / 64 / 3) (last_perf f 3 / 64 % 3) left (omega arith))

written_below : (format : FilmFormat) (f : ℕ) → (footage_of format f).frames < frames_in_foot format (footage_of format f).feet
unfolding footage_of
written_below FF35mm4perf f = omega arith
written_below FF35mm3perf f = three-below f (leaves_two (last_perf f 3 / 64)) refl
written_below FF35mm2perf f = omega arith
written_below FF16mm f = omega arith

-- ---- what is below is written
-- in 3-perf, where the frame's last perf is not past the foot's
three-at : (feet frames : ℕ) → 3 * frames + 2 < 64 + feet % 3 → Occurs FF35mm3perf feet frames
unfolding footage_count footage_of
three-at feet frames h =
    let last = last_perf (footage_count FF35mm3perf feet frames) 3 in
    let foot : last / 64 ≡ feet = omega arith in
    let rest : last % 64 ≡ 3 * frames + 2 - feet % 3 = omega arith in
    record { count = footage_count FF35mm3perf feet frames; feet_of = foot; frames_of = omega arith }

three-of : (feet frames : ℕ) (t : Bool) → leaves_two feet ≡ t → frames < cond t 22 21 → Occurs FF35mm3perf feet frames
three-of feet frames true e h = three-at feet frames (omega (arith, eqb-true (feet % 3) _ e))
three-of feet frames false e h = three-at feet frames (omega arith)

pub below-occurs : (format : FilmFormat) (feet frames : ℕ) → frames < frames_in_foot format feet → Occurs format feet frames
unfolding footage_count footage_of
below-occurs FF35mm4perf feet frames h =
    record { count = footage_count FF35mm4perf feet frames; feet_of = omega arith; frames_of = omega arith }
below-occurs FF35mm3perf feet frames h = three-of feet frames (leaves_two feet) refl h
below-occurs FF35mm2perf feet frames h =
    record { count = footage_count FF35mm2perf feet frames; feet_of = omega arith; frames_of = omega arith }
below-occurs FF16mm feet frames h =
    record { count = footage_count FF16mm feet frames; feet_of = omega arith; frames_of = omega arith }

pub occurs-below : (format : FilmFormat) (feet frames : ℕ) → Occurs format feet frames → frames < frames_in_foot format feet
occurs-below format feet frames o =
    subst (λ (x : ℕ). x < frames_in_foot format feet) o.frames_of
    (subst (λ (x : ℕ). (footage_of format o.count).frames < frames_in_foot format x) o.feet_of (written_below format o.count))
