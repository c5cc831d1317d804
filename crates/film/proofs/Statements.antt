-- The statements of specs/Statements.antt, proved: by the four formats, and by the tests of a footage.
-- Assumes nothing.
use Prim.Native.Nat.{ℕ, ◌%◌, ◌≤◌}
use native.Mathlib.Omega.{arith}
use mathlib.Core.Path.{◌≡◌, refl, sym, ap, ap₂, ◌∙◌}
use mathlib.Core.Bool.{Bool, true, false, not, ◌&&◌, ◌||◌, false≢true}
use mathlib.Core.Logic.{◌⊎◌, inl, inr, ⊎_elim}
use borrow.Author.Tests.{ltb-true, ltb-false, eqb-true, eqb-false}
use lib.Dec.{eqb, ltb}
use Rattle.film.specs.declared.FilmFormat.{FilmFormat}
use Rattle.film.specs.declared.FilmFormat.TheVariants.{FF35mm4perf, FF35mm3perf, FF35mm2perf, FF16mm}
use Rattle.film.specs.Film.{perfs_per_frame_of, perfs_per_foot_of, format_at, allows_perf_field}
use Rattle.film.specs.Footage.{footage_count, footage_of}
use Rattle.film.specs.OnFilm.{frames_in_foot, on_film}
use Rattle.film.specs.FormatLaws.{at-number, format_at-told, frame-perfs, foot-perfs}
use Rattle.film.specs.Statements.{FormatNumbered, OnlyThreePerf, FootageBack, FootageNext, FramesInFoot, ThreePerfFrames, OnFilm, OffFilm, OnFilmExactly, OffFilmExactly, FootageForth}
use Rattle.film.proofs.Next.{first, next}
use Rattle.film.proofs.OnFilm.{three-perf-two, three-perf-other, below-occurs, occurs-below}

pub format_numbered : FormatNumbered
format_numbered n format = (format_at-told n format, λ e. ap format_at e ∙ at-number format)

pub only_three_perf : OnlyThreePerf
only_three_perf FF35mm4perf = (λ e. cc, λ e. cc (ap allows_perf_field e))
only_three_perf FF35mm3perf = (λ e. refl, λ e. refl)
only_three_perf FF35mm2perf = (λ e. cc, λ e. cc (ap allows_perf_field e))
only_three_perf FF16mm = (λ e. cc, λ e. cc (ap allows_perf_field e))

pub footage_back : FootageBack
unfolding footage_count footage_of
footage_back FF35mm4perf f = omega arith
footage_back FF35mm3perf f = omega arith
footage_back FF35mm2perf f = omega arith
footage_back FF16mm f = omega arith

pub footage_next : FootageNext
unfolding footage_of
footage_next format =
    let P = perfs_per_frame_of format in
    let foot = perfs_per_foot_of format in
    let some = (frame-perfs format).0 in
    let few : P ≤ foot = omega (arith, (frame-perfs format).1, (foot-perfs format).0) in
    (first P foot some few, next P foot some few)

-- ---- which footages can be on the film
pub frames-in-foot : FramesInFoot
frames-in-foot feet frames = (
  (occurs-below FF35mm4perf feet frames, below-occurs FF35mm4perf feet frames),
  (occurs-below FF35mm2perf feet frames, below-occurs FF35mm2perf feet frames),
  (occurs-below FF16mm feet frames, below-occurs FF16mm feet frames),
)

pub three_perf_frames : ThreePerfFrames
three_perf_frames feet frames = (
  λ h. let is = three-perf-other feet h in
      (λ o. omega (arith, occurs-below FF35mm3perf feet frames o), λ l. below-occurs FF35mm3perf feet frames (omega arith)),
  λ h. let is = three-perf-two feet h in
      (λ o. omega (arith, occurs-below FF35mm3perf feet frames o), λ l. below-occurs FF35mm3perf feet frames (omega arith)),
)

module _ (format : FilmFormat) (feet frames : ℕ) (marked : Bool) (marker : ℕ) where
  -- by its two tests, passed or not
  tested : (m s t : Bool) → ltb frames (frames_in_foot format feet) ≡ s → eqb marker (feet % 3) ≡ t
      → (((s && (not m || t)) ≡ true) × OnFilm format feet frames m marker) ⊎ (((s && (not m || t)) ≡ false) × OffFilm format feet frames m marker)
  tested m false t e f =
      let past = ltb-false frames (frames_in_foot format feet) e in
      inr (refl, inl (λ o. omega (arith, occurs-below format feet frames o)))
  tested false true t e f =
      let there = below-occurs format feet frames (ltb-true frames (frames_in_foot format feet) e) in
      inl (refl, record { occurs = there; modulo = λ h. absurd (false≢true h) })
  tested true true true e f =
      let there = below-occurs format feet frames (ltb-true frames (frames_in_foot format feet) e) in
      inl (refl, record { occurs = there; modulo = λ h. eqb-true marker (feet % 3) f })
  tested true true false e f = inr (refl, inr (refl, eqb-false marker (feet % 3) f))

  judged : ((on_film format feet frames marked marker ≡ true) × OnFilm format feet frames marked marker)
      ⊎ ((on_film format feet frames marked marker ≡ false) × OffFilm format feet frames marked marker)
  unfolding on_film
  judged = tested marked (ltb frames (frames_in_foot format feet)) (eqb marker (feet % 3)) refl refl

  -- no footage has both
  apart : OnFilm format feet frames marked marker → OffFilm format feet frames marked marker → ⊥
  apart on off = ⊎_elim (λ never. never on.occurs) (λ other. other.1 (on.modulo other.0)) off

pub on_film_exactly : OnFilmExactly
on_film_exactly format feet frames marked marker = (
  λ e. ⊎_elim (λ x. x.1) (λ x. absurd (false≢true (sym x.0 ∙ e))) (judged format feet frames marked marker),
  λ on. ⊎_elim (λ x. x.0) (λ x. absurd (apart format feet frames marked marker on x.1)) (judged format feet frames marked marker),
)

pub off_film_exactly : OffFilmExactly
off_film_exactly format feet frames marked marker = (
  λ e. ⊎_elim (λ x. absurd (false≢true (sym e ∙ x.0))) (λ x. x.1) (judged format feet frames marked marker),
  λ off. ⊎_elim (λ x. absurd (apart format feet frames marked marker x.1 off)) (λ x. x.0) (judged format feet frames marked marker),
)

-- the count of feet and frames that occur is the one that they occur in
pub footage_forth : FootageForth
unfolding footage_of
footage_forth format feet frames o =
    let back = ap₂ (footage_count format) (sym o.feet_of) (sym o.frames_of) ∙ footage_back format o.count in
    ap (footage_of format) back ∙ ap₂ (λ (x y : ℕ). record { feet = x; frames = y; perf = x % 3 }) o.feet_of o.frames_of
