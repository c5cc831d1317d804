-- The field that is shown of a footage that cannot be on the film is the leftmost at fault, and the limit the nearest value that is allowed.
-- Assumes nothing.
use Rattle.std.specs.Prelude.{Option, Some, None}
use Prim.Native.Nat.{ℕ, ◌-◌, ◌%◌, ◌≤◌, ◌<◌}
use native.Mathlib.Omega.{arith}
use native.Mathlib.Decide.{dec_lt}
use mathlib.Core.Path.{◌≡◌, refl, sym, ap, ◌∙◌, subst}
use mathlib.Core.Logic.{⊎_elim}
use mathlib.Core.Bool.{Bool, true, false, cond}
use mathlib.Core.List.{List}
use borrow.Author.Tests.{ne_eqb}
use lib.IntN.{ℤ, pos, nat_abs}
use Rattle.digits.specs.Digits.{value_of}
use Rattle.faults.specs.declared.Field.TheVariants.{Frames, Marker}
use Rattle.faults.specs.declared.Fault.{Fault}
use Rattle.faults.specs.Faults.{fault, exactly, leftmost}
use Rattle.faults.specs.FaultLaws.{under_at, under-not, exactly-at, nearest-under, nearest-only}
use Rattle.film.specs.declared.FilmFormat.{FilmFormat}
use Rattle.film.specs.declared.FilmFormat.TheVariants.{FF35mm4perf, FF35mm3perf, FF35mm2perf, FF16mm}
use Rattle.film.specs.OnFilm.{leaves_two, frames_in_foot}
use Rattle.film.specs.Faults.{marker_fault, film_fault}
use Rattle.film.proofs.OnFilm.{below-occurs, occurs-below}
use Rattle.footage_scan.specs.Shape.{FootageParts, has_perf}
use Rattle.reading.specs.Shaped.{shape_of}
use Rattle.reading.specs.Statements.{FilmRefused}
use Rattle.reading.proofs.Shapes.{shape-footage}
use Rattle.reasons.specs.Facts.{limit_from, footage_fact, fact_by}
use Rattle.reasons.specs.Holds.{OfFoot, FilmFact, frames, marker, FactHolds, not-on-film}
use Rattle.reasons.proofs.Facts.{footage-thirteen}

-- a foot has a frame at least
some-frames : (format : FilmFormat) (feet : ℕ) → 0 < frames_in_foot format feet
some-frames FF35mm4perf feet = omega arith
some-frames FF35mm3perf feet = by (leaves_two feet)
  where
    by : (t : Bool) → 0 < cond t 22 21
    by true = omega arith
    by false = omega arith
some-frames FF35mm2perf feet = omega arith
some-frames FF16mm feet = omega arith

-- the numbers of a foot are those under its frames
foot-only : (format : FilmFormat) (feet : ℕ) (x : ℤ) → OfFoot format feet x → (nat_abs x < frames_in_foot format feet) × (x ≡ pos (nat_abs x))
foot-only format feet x o =
    let low = occurs-below format feet o.number o.occurs in
    let abs : nat_abs x ≡ o.number = ap nat_abs o.is in
    (omega arith, o.is ∙ ap pos (sym abs))

foot-all : (format : FilmFormat) (feet n : ℕ) → n < frames_in_foot format feet → OfFoot format feet (pos n)
foot-all format feet n h = record { number = n; is = refl; occurs = below-occurs format feet n h }

module _ (l : List ℕ) (stated : Option ℕ) (rate : ℕ) (x : FilmRefused l stated) where
  abbrev p : FootageParts
  p = x.parts

  abbrev feet : ℕ
  feet = value_of p.feet

  abbrev number : ℕ
  number = value_of p.frames

  -- it is the fault of its parts that is shown
  shown : fact_by 13 rate stated (shape_of stated l) ≡ limit_from (film_fault x.format feet number (has_perf p.perf) (value_of p.perf))
  shown =
      ap (fact_by 13 rate stated) (shape-footage stated l p x.text)
      ∙ ap (λ (format : FilmFormat). footage_fact 13 format p.minus feet number (has_perf p.perf) (value_of p.perf)) x.in-format.chosen
      ∙ footage-thirteen 13 x.format p.minus feet number (has_perf p.perf) (value_of p.perf) refl

  holds : (f : Fault) → film_fault x.format feet number (has_perf p.perf) (value_of p.perf) ≡ Some f → FilmFact x.format p f
      → FactHolds l stated rate 13 (fact_by 13 rate stated (shape_of stated l))
  holds f e fact =
      subst (FactHolds l stated rate 13) (sym (shown ∙ ap limit_from e))
      (not-on-film (record { parts = p; text = x.text; format = x.format; in-format = x.in-format; fact = fact }))

  -- the frames number is past the foot
  by_frames : frames_in_foot x.format feet ≤ number → FactHolds l stated rate 13 (fact_by 13 rate stated (shape_of stated l))
  unfolding film_fault
  by_frames h =
      let n = frames_in_foot x.format feet in
      holds (fault Frames false (n - 1) number)
      (ap (λ (u : Option Fault). leftmost u (marker_fault feet (has_perf p.perf) (value_of p.perf))) (under_at Frames n number h))
      (frames refl refl
      (nearest-under (OfFoot x.format feet) n number (some-frames x.format feet) h (foot-only x.format feet) (foot-all x.format feet)))

  -- it is not, so it is the marker
  by-marker : number < frames_in_foot x.format feet → has_perf p.perf ≡ true → ¬ (value_of p.perf ≡ feet % 3)
      → FactHolds l stated rate 13 (fact_by 13 rate stated (shape_of stated l))
  unfolding film_fault marker_fault
  by-marker h marked other =
      holds (fault Marker false (feet % 3) (value_of p.perf))
      (ap (λ (u : Option Fault). leftmost u (marker_fault feet (has_perf p.perf) (value_of p.perf))) (under-not Frames (frames_in_foot x.format feet) number h)
      ∙ ap (λ (t : Bool). cond t (exactly Marker (feet % 3) (value_of p.perf)) None) marked
      ∙ exactly-at Marker (feet % 3) (value_of p.perf) (ne_eqb (value_of p.perf) (feet % 3) other))
      (marker refl (below-occurs x.format feet number h) marked refl
      (nearest-only (λ (z : ℤ). z ≡ pos (feet % 3)) (feet % 3) (value_of p.perf) other (λ z a. a) refl))

  pub thirteen-holds : FactHolds l stated rate 13 (fact_by 13 rate stated (shape_of stated l))
  thirteen-holds = by (dec_lt number (frames_in_foot x.format feet))
    where
      by : Dec (number < frames_in_foot x.format feet) → FactHolds l stated rate 13 (fact_by 13 rate stated (shape_of stated l))
      by (yes h) =
          ⊎_elim (λ never. absurd (never (below-occurs x.format feet number h))) (λ other. by-marker h other.0 other.1) x.off
      by (no h) = by_frames (omega arith)
