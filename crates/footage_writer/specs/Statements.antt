-- What holds of a written footage beyond one call (BEHAVIOUR: Footage): the statements. Proofs: proofs/Statements.antt.
-- Assumes nothing.
use Rattle.std.specs.Prelude.{ℕ, ◌+◌, ◌%◌, ◌≤◌, ◌≡◌, List, [], ◌∷◌, ◌++◌, true, length, ℤ, nat_abs}
use Rattle.numbers.specs.Sign.{is_neg}
use Rattle.answers.specs.Refusals.{is_count}
use Rattle.film.specs.declared.FilmFormat.{FilmFormat}
use Rattle.film.specs.declared.FilmFormat.TheVariants.{FF35mm3perf}
use Rattle.film.specs.Footage.{footage_count}
use Rattle.digits.specs.Digits.{value_of}
use Rattle.digits.specs.Statements.{Padded}
use Rattle.written.specs.Parts.{sign_text}
use Rattle.footage_writer.specs.FootageText.{footage_text}

-- a footage is a sign, feet unpadded, `+`, frames of two digits at least, and a marker; feet and frames, counted in the format, are the
-- absolute count; the marker of 3-perf is `.` and feet modulo 3, and no other format has one
pub record WrittenFootage (format : FilmFormat) (count : ℤ) : Type 0 where
  pub feet : List ℕ
  pub frames : List ℕ
  pub marker : List ℕ
  pub text : footage_text format count ≡ sign_text (is_neg count) ++ (feet ++ (43 ∷ frames ++ marker))
  pub feet_unpadded : Padded 1 feet
  pub frames_padded : Padded 2 frames
  pub counted : footage_count format (value_of feet) (value_of frames) ≡ nat_abs count
  pub three_perf : format ≡ FF35mm3perf → marker ≡ 46 ∷ (48 + value_of feet % 3) ∷ []
  pub no_other : (format ≡ FF35mm3perf → ⊥) → marker ≡ []

-- every footage that is written has this shape
abbrev pub FootageIs : Type 0
FootageIs = (format : FilmFormat) (count : ℤ) → WrittenFootage format count

-- a line with fourteen bytes from its place on has room for the footage of any count within the bounds
abbrev pub FourteenBytes : Type 0
FourteenBytes = (format : FilmFormat) (count : ℤ) → is_count count ≡ true → length (footage_text format count) ≤ 14
