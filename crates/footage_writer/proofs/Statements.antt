-- The written fields are read as the numbers they were written from, the marker is feet modulo 3, and a footage within the bounds is short.
-- Assumes nothing.
use Prim.Native.Nat.{ℕ, ◌+◌, ◌%◌, ◌≤◌, ◌<◌}
use mathlib.Core.Path.{◌≡◌, refl, sym, ap, ap₂, ◌∙◌}
use mathlib.Core.List.{[], ◌∷◌, append_assoc}
use native.Mathlib.Omega.{arith}
use borrow.Author.Tests.{leb-true}
use lib.ListN.{length}
use lib.IntN.{nat_abs}
use Rattle.numbers.specs.Sign.{is_neg}
use Rattle.answers.specs.Refusals.{most_count}
use Rattle.film.specs.declared.FilmFormat.{FilmFormat}
use Rattle.film.specs.declared.FilmFormat.TheVariants.{FF35mm4perf, FF35mm3perf, FF35mm2perf, FF16mm}
use Rattle.film.specs.Footage.{footage_count, footage_of}
use Rattle.film.specs.FootageLaws.{frames-le, perf-lt}
use Rattle.film.proofs.Statements.{footage_back}
use Rattle.digits.specs.Digits.{digits_of, decimal}
use Rattle.digits.proofs.Width.{decimal_back, decimal_length, width-at-most}
use Rattle.digits.proofs.Statements.{decimal_padded}
use Rattle.written.proofs.Parts.{sign-most, padded-length, decimal-short}
use Rattle.footage_writer.specs.FootageText.{perf_text, feet_text, footage_text}
use Rattle.footage_writer.specs.Statements.{FootageIs, FourteenBytes}
use Rattle.footage_writer.proofs.Laws.{feet-length}

-- one digit
digit-is : (n : ℕ) → n < 10 → decimal 1 n ≡ (48 + n) ∷ []
unfolding digits_of
digit-is n h = decimal-short 1 n (omega arith) (omega arith) ∙ ap (λ d. d ∷ []) (omega arith)

-- the marker is that of 3-perf, and of no other
only : (format : FilmFormat) (perf : ℕ) → (format ≡ FF35mm3perf → ⊥) → perf_text format perf ≡ []
only FF35mm4perf perf h = refl
only FF35mm3perf perf h = absurd (h refl)
only FF35mm2perf perf h = refl
only FF16mm perf h = refl

-- `.` and feet modulo 3
three : (format : FilmFormat) (f : ℕ) → format ≡ FF35mm3perf
    → perf_text format (footage_of format f).perf ≡ 46 ∷ (48 + (footage_of format f).feet % 3) ∷ []
unfolding footage_of
three FF35mm4perf f e = let z : ◌≡◌ {A = ℕ} 0 1 = cc in absurd (omega arith)
three FF35mm3perf f e = ap (λ d. 46 ∷ d) (digit-is ((footage_of FF35mm3perf f).feet % 3) (omega arith))
three FF35mm2perf f e = let z : ◌≡◌ {A = ℕ} 0 1 = cc in absurd (omega arith)
three FF16mm f e = let z : ◌≡◌ {A = ℕ} 0 1 = cc in absurd (omega arith)

pub footage_is : FootageIs
unfolding footage_text feet_text
footage_is format count =
    let f = footage_of format (nat_abs count) in
    record {
      feet = decimal 1 f.feet;
      frames = decimal 2 f.frames;
      marker = perf_text format f.perf;
      text = simp append_assoc;
      feet_unpadded = decimal_padded 1 f.feet;
      frames_padded = decimal_padded 2 f.frames;
      counted =
          ap₂ (footage_count format) (decimal_back 1 f.feet) (decimal_back 2 f.frames) ∙ footage_back format (nat_abs count);
      three_perf = λ e. three format (nat_abs count) e ∙ ap (λ n. 46 ∷ (48 + n % 3) ∷ []) (sym (decimal_back 1 f.feet));
      no_other = only format f.perf;
    }

-- at least sixteen frames a foot
feet-most : (format : FilmFormat) (f : ℕ) → f ≤ most_count → (footage_of format f).feet ≤ 25000000
unfolding footage_of
feet-most FF35mm4perf f h = omega arith
feet-most FF35mm3perf f h = omega arith
feet-most FF35mm2perf f h = omega arith
feet-most FF16mm f h = omega arith

-- a marker of one digit
marker-two : (format : FilmFormat) (perf : ℕ) → perf < 10 → length (perf_text format perf) ≤ 2
marker-two FF35mm4perf perf h = omega arith
marker-two FF35mm3perf perf h = omega (arith, ap length (digit-is perf h))
marker-two FF35mm2perf perf h = omega arith
marker-two FF16mm perf h = omega arith

pub fourteen_bytes : FourteenBytes
unfolding footage_text
fourteen_bytes format count h =
    let f = footage_of format (nat_abs count) in
    let m = feet-most format (nat_abs count) (leb-true _ _ h) in
    let k = frames-le format (nat_abs count) in
    let p = perf-lt format (nat_abs count) in
    omega (
      arith,
      feet-length (is_neg count) format f,
      padded-length (is_neg count) 1 f.feet,
      sign-most (is_neg count),
      width-at-most f.feet 8 (omega arith) (omega arith),
      decimal_length 2 f.frames,
      width-at-most f.frames 2 (omega arith) (omega arith),
      marker-two format f.perf (omega arith),
    )
