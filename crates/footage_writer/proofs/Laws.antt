-- How long the parts of a footage are, which formats have a marker, and what is drafted for a format.
-- Assumes nothing.
use Rattle.std.specs.Prelude.{Ok, Err}
use Prim.Native.Nat.{ℕ, ◌+◌, ◌^◌, ◌≤◌, ◌<◌}
use mathlib.Core.Path.{◌≡◌, refl, sym, ap}
use mathlib.Core.Bool.{Bool, true, false}
use mathlib.Core.List.{[], ◌∷◌, ◌++◌}
use native.Mathlib.Omega.{arith}
use lib.ListN.{length, length-append}
use Rattle.answers.specs.declared.Refusal.{Refusal}
use Rattle.answers.specs.Order.{unless}
use Rattle.answers.specs.OrderLaws.{unless-told}
use Rattle.timecodes.specs.declared.Timecode.{Timecode}
use Rattle.timecodes.specs.Admitted.{admits}
use Rattle.film.specs.declared.FilmFormat.{FilmFormat}
use Rattle.film.specs.declared.FilmFormat.TheVariants.{FF35mm4perf, FF35mm3perf, FF35mm2perf, FF16mm}
use Rattle.film.specs.declared.Footage.{Footage}
use Rattle.film.specs.Film.{allows_perf_field, bad_format, format_in, format_at}
use Rattle.digits.specs.Digits.{decimal}
use Rattle.digits.proofs.Width.{decimal_length}
use Rattle.written.specs.Parts.{signed_text, field_text}
use Rattle.written.specs.Written.{Text, NoText}
use Rattle.written.proofs.Parts.{wide-most}
use Rattle.footage_writer.specs.FootageText.{perf_text, feet_text, footage_text, footage_draft}

-- ---- the marker
-- a format with a perf field has one, and another has none
pub marker-some : (format : FilmFormat) (perf : ℕ) → allows_perf_field format ≡ true → perf_text format perf ≡ 46 ∷ decimal 1 perf
marker-some FF35mm4perf perf e = let z : ◌≡◌ {A = ℕ} 0 1 = cc in absurd (omega arith)
marker-some FF35mm3perf perf e = refl
marker-some FF35mm2perf perf e = let z : ◌≡◌ {A = ℕ} 0 1 = cc in absurd (omega arith)
marker-some FF16mm perf e = let z : ◌≡◌ {A = ℕ} 0 1 = cc in absurd (omega arith)

pub marker-none : (format : FilmFormat) (perf : ℕ) → allows_perf_field format ≡ false → perf_text format perf ≡ []
marker-none FF35mm4perf perf e = refl
marker-none FF35mm3perf perf e = let z : ◌≡◌ {A = ℕ} 0 1 = cc in absurd (omega arith)
marker-none FF35mm2perf perf e = refl
marker-none FF16mm perf e = refl

pub marker-most : (format : FilmFormat) (perf : ℕ) → perf < 2 ^ 64 → length (perf_text format perf) ≤ 21
marker-most FF35mm4perf perf h = omega arith
marker-most FF35mm3perf perf h = omega (arith, wide-most 1 perf _ (omega arith) h (decimal_length 1 perf))
marker-most FF35mm2perf perf h = omega arith
marker-most FF16mm perf h = omega arith

-- how long the text is
pub feet-length : (minus : Bool) (format : FilmFormat) (footage : Footage)
    → length (feet_text minus format footage)
    ≡ length (signed_text minus footage.feet) + length (field_text 43 footage.frames) + length (perf_text format footage.perf)
unfolding feet_text
feet-length minus format footage =
    let frames = field_text 43 footage.frames in
    let marker = perf_text format footage.perf in
    omega (arith, length-append (signed_text minus footage.feet) (frames ++ marker), length-append frames marker)

-- ---- the draft
module _ (tc : Timecode) (format : ℕ) where
  -- in a format that there is, the timecode decides
  pub draft-in : (chosen : FilmFormat) → format_at format ≡ Ok chosen → unless NoText (admits tc) (Text (footage_text chosen tc.count)) ≡ footage_draft tc format
  unfolding format_at footage_draft
  draft-in chosen h =
      let told = unless-told Err (bad_format format ∷ []) (Ok (format_in format)) (Ok chosen) apart h in
      let same : format_in format ≡ chosen = let e = told.1 in cc in
      rw told.0.0 (ap (λ f. unless NoText (admits tc) (Text (footage_text f tc.count))) (sym same))
    where
      apart : (e : Refusal) → Err e ≡ Ok chosen → ⊥
      apart e p = let z : ◌≡◌ {A = ℕ} 0 1 = cc in omega arith
