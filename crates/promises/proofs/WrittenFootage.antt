-- What is written for a count has the shape of a footage, its numbers in its fields, and a marker where the film format has one.
-- Assumes nothing.
use Prim.Native.Nat.{ℕ, ◌^◌, ◌≤◌, ◌<◌}
use mathlib.Core.Path.{◌≡◌, refl, sym, ap, ◌∙◌, subst}
use mathlib.Core.List.{List, [], ◌∷◌, ◌++◌, append_assoc}
use mathlib.Core.Bool.{Bool, true, false, not, ◌||◌, false≢true}
use native.Mathlib.Omega.{arith}
use borrow.Author.Tests.{leb-true, lt-ltb}
use lib.IntN.{ℤ, nat_abs}
use lib.ListN.{length}
use Rattle.numbers.specs.Sign.{is_neg}
use Rattle.digits.specs.Digits.{all_digits, value_of, decimal}
use Rattle.digits.proofs.Width.{decimal_back, decimal-field}
use Rattle.answers.specs.Refusals.{most_count, is_count}
use Rattle.film.specs.declared.FilmFormat.{FilmFormat}
use Rattle.film.specs.declared.Footage.{Footage}
use Rattle.film.specs.Film.{allows_perf_field}
use Rattle.film.specs.Footage.{footage_of}
use Rattle.film.specs.FootageLaws.{feet-le, frames-le, perf-lt}
use Rattle.scanner.specs.Long.{is_long}
use Rattle.scanner.specs.Shapes.{with_minus, pointed}
use Rattle.scanner.proofs.Bodies.{point-some}
use Rattle.scanner.proofs.Long.{not-long, written-short}
use Rattle.footage_scan.specs.Shape.{FootageParts, footage_parts, FootageShape, has_perf}
use Rattle.footage_scan.proofs.Statements.{footage-shape, footage-short}
use Rattle.footage_writer.specs.FootageText.{perf_text, feet_text, footage_text}
use Rattle.footage_writer.proofs.Laws as writer
use Rattle.reading.specs.Statements.{FootageText}
use Rattle.written.specs.Parts.{sign_text}
use Rattle.promises.proofs.Read.{sign-is}

-- ---- the marker
-- its digits, in a film format that has one or has none
abbrev pub marker_digits : (has : Bool) (perf : ℕ) → List ℕ
marker_digits true perf = decimal 1 perf
marker_digits false perf = []

pub marker-digits : (has : Bool) (perf : ℕ) → all_digits (marker_digits has perf) ≡ true
unfolding all_digits
marker-digits true perf = (decimal-field 1 perf).digits
marker-digits false perf = refl

-- where the format has one, it is there, and has its value
pub marker-there : (perf : ℕ) → has_perf (decimal 1 perf) ≡ true
marker-there perf = lt-ltb 0 (length (decimal 1 perf)) (decimal-field 1 perf).some

pub marker-some : (has : Bool) (perf : ℕ) → has ≡ true → (has_perf (marker_digits has perf) ≡ true) × (value_of (marker_digits has perf) ≡ perf)
marker-some true perf e = (marker-there perf, decimal_back 1 perf)
marker-some false perf e = absurd (false≢true e)

-- and where it is there, the format has one
pub marker-taken : (has : Bool) (perf : ℕ) (present : Bool) → (present ≡ true → has_perf (marker_digits has perf) ≡ true) → (not present || has) ≡ true
marker-taken has perf false h = refl
marker-taken true perf true h = refl
marker-taken false perf true h = absurd (false≢true (h refl))

marker-short : (has : Bool) (perf : ℕ) → perf < 10 ^ 9 → is_long (length (marker_digits has perf)) ≡ false
marker-short true perf h = not-long (decimal 1 perf) (written-short 1 perf (omega arith) h)
marker-short false perf h = refl

marker-pointed : (format : FilmFormat) (perf : ℕ) (has : Bool) → allows_perf_field format ≡ has → perf_text format perf ≡ pointed (marker_digits has perf)
marker-pointed format perf true e = writer.marker-some format perf e ∙ sym (point-some (decimal 1 perf) (decimal-field 1 perf).some)
marker-pointed format perf false e = writer.marker-none format perf e

-- ---- the text
module _ (format : FilmFormat) (count : ℤ) where
  abbrev pub written : Footage
  written = footage_of format (nat_abs count)

  abbrev marker : List ℕ
  marker = marker_digits (allows_perf_field format) written.perf

  -- its parts
  abbrev pub parts_of : FootageParts
  parts_of = footage_parts (is_neg count) (decimal 1 written.feet) (decimal 2 written.frames) marker

  pub written-shape : FootageShape (footage_text format count) parts_of
  unfolding footage_text feet_text
  written-shape =
      let d = decimal 1 written.feet in
      let e = decimal 2 written.frames in
      let text : footage_text format count ≡ with_minus (is_neg count) ((d ++ 43 ∷ e) ++ pointed marker) =
      rw (marker-pointed format written.perf (allows_perf_field format) refl) (append_assoc (sign_text (is_neg count)) d (43 ∷ e ++ pointed marker))
      ∙ sign-is (is_neg count) (d ++ (43 ∷ e ++ pointed marker))
      ∙ ap (with_minus (is_neg count)) (sym (append_assoc d (43 ∷ e) (pointed marker))) in
      subst (λ (l : List ℕ). FootageShape l parts_of) (sym text)
      (footage-shape (is_neg count) d e marker
      (decimal-field 1 written.feet) (decimal-field 2 written.frames) (marker-digits (allows_perf_field format) written.perf))

  -- none of its fields is too long
  pub written-text : is_count count ≡ true → FootageText (footage_text format count) parts_of
  written-text c =
      let few : nat_abs count ≤ most_count = leb-true (nat_abs count) most_count c in
      let i = written-short 1 written.feet (omega arith) (omega (arith, feet-le format (nat_abs count))) in
      let j = written-short 2 written.frames (omega arith) (omega (arith, frames-le format (nat_abs count))) in
      let k = marker-short (allows_perf_field format) written.perf (omega (arith, perf-lt format (nat_abs count))) in
      record {
        shape = written-shape;
        short = footage-short (is_neg count) (decimal 1 written.feet) (decimal 2 written.frames) marker i j k;
      }
