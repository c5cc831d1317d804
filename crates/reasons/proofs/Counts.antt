-- The count that is shown is that of the text, out of bounds, and the limit the nearest within them.
-- Assumes nothing.
use Rattle.std.specs.Prelude.{Option, Some}
use Prim.Native.Nat.{ℕ, ◌<◌}
use native.Mathlib.Omega.{arith}
use mathlib.Core.Path.{◌≡◌, refl, sym, ap, ◌∙◌, subst}
use mathlib.Core.Logic.{inl, inr}
use mathlib.Core.Bool.{Bool, true, false}
use mathlib.Core.List.{List}
use borrow.Author.Tests.{leb-false}
use lib.IntN.{nat_abs}
use Rattle.digits.specs.Digits.{value_of}
use Rattle.numbers.specs.Sign.{signed}
use Rattle.numbers.specs.SignLaws.{abs-signed}
use Rattle.answers.specs.Refusals.{most_count, is_count}
use Rattle.faults.specs.declared.Field.TheVariants.{Count}
use Rattle.faults.specs.Faults.{fault, count_fault}
use Rattle.faults.specs.FaultLaws.{count_at, nearest-count}
use Rattle.rates.specs.Rates.{is_rate, rate_row, drop_frames}
use Rattle.film.specs.declared.FilmFormat.{FilmFormat}
use Rattle.film.specs.Footage.{footage_count, footage_or-in}
use Rattle.labels.specs.Label.{count_in, Short}
use Rattle.labels.specs.BoundLaws.{is_short-in}
use Rattle.labels.specs.AtRate.{frames_or-in}
use Rattle.footage_scan.specs.Shape.{FootageParts, has_perf}
use Rattle.footage_scan.proofs.Statements.{footage_reads, footage_below}
use Rattle.reading.specs.Shaped.{label, format_for, shape_of}
use Rattle.reading.specs.Statements.{FootageText, LabelCount, FootageCount}
use Rattle.reading.proofs.Shapes.{shape-footage}
use Rattle.reasons.specs.declared.Fact.TheVariants.{Limit}
use Rattle.reasons.specs.Facts.{limit_from, ShortLabel, footage_fact, fact_by}
use Rattle.reasons.specs.Holds.{FactHolds, out-of-bounds}
use Rattle.reasons.proofs.Facts.{label-five, footage-five}
use Rattle.reasons.proofs.Told.{shape-short}

-- a magnitude whose count is out of bounds is past them
pub past-count : (minus : Bool) (m : ℕ) → is_count (signed minus m) ≡ false → most_count < m
past-count minus m e = let l = leb-false (nat_abs (signed minus m)) most_count e in let s = abs-signed minus m in omega arith

-- the fields of a text's label have at most 9 digits
pub label-short : (l : List ℕ) (stated : Option ℕ) (minus : Bool) (fields : List ℕ) → shape_of stated l ≡ label minus fields → Short fields
label-short l stated minus fields e = subst ShortLabel e (shape-short stated l)

-- and the feet and frames of its footage
footage-small : (l : List ℕ) (p : FootageParts) → FootageText l p → (value_of p.feet < 1000000000) × (value_of p.frames < 1000000000)
footage-small l p t =
    let b = footage_below l _ (footage_reads l p t.shape t.short) in (b.0, b.1)

module _ (l : List ℕ) (stated : Option ℕ) (rate : ℕ) (r : is_rate rate ≡ true) where
  pub label-count : (minus : Bool) (fields : List ℕ) → LabelCount l stated rate (signed minus (count_in (rate_row rate).timebase (drop_frames rate) fields))
      → shape_of stated l ≡ label minus fields → is_count (signed minus (count_in (rate_row rate).timebase (drop_frames rate) fields)) ≡ false
      → FactHolds l stated rate 5 (fact_by 5 rate stated (shape_of stated l))
  label-count minus fields count e out =
      let m = count_in (rate_row rate).timebase (drop_frames rate) fields in
      let past = past-count minus m out in
      let short = is_short-in fields (label-short l stated minus fields e) in
      let is : fact_by 5 rate stated (shape_of stated l) ≡ Some (Limit (fault Count minus most_count m)) =
      ap (fact_by 5 rate stated) e
      ∙ label-five 5 rate minus fields refl
      ∙ ap limit_from (ap (count_fault minus) (frames_or-in rate fields r short) ∙ count_at minus m past) in
      subst (FactHolds l stated rate 5) (sym is) (out-of-bounds (record { of_count = refl; count = inl count; nearest = nearest-count minus m past }))

  pub footage-count : (format : FilmFormat) (p : FootageParts) → FootageText l p → format_for stated (has_perf p.perf) ≡ format
      → FootageCount l stated format (signed p.minus (footage_count format (value_of p.feet) (value_of p.frames)))
      → is_count (signed p.minus (footage_count format (value_of p.feet) (value_of p.frames))) ≡ false
      → FactHolds l stated rate 5 (fact_by 5 rate stated (shape_of stated l))
  footage-count format p text chosen count out =
      let m = footage_count format (value_of p.feet) (value_of p.frames) in
      let past = past-count p.minus m out in
      let small = footage-small l p text in
      let is : fact_by 5 rate stated (shape_of stated l) ≡ Some (Limit (fault Count p.minus most_count m)) =
      ap (fact_by 5 rate stated) (shape-footage stated l p text)
      ∙ ap (λ (x : FilmFormat). footage_fact 5 x p.minus (value_of p.feet) (value_of p.frames) (has_perf p.perf) (value_of p.perf)) chosen
      ∙ footage-five 5 format p.minus (value_of p.feet) (value_of p.frames) (has_perf p.perf) (value_of p.perf) refl
      ∙ ap limit_from
      (ap (count_fault p.minus) (footage_or-in format (value_of p.feet) (value_of p.frames) small.0 small.1) ∙ count_at p.minus m past) in
      subst (FactHolds l stated rate 5) (sym is)
      (out-of-bounds (record { of_count = refl; count = inr (format, count); nearest = nearest-count p.minus m past }))
