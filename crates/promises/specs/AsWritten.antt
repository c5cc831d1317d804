-- A footage that is read is what the writer gives for its count, but for leading zeros, an absent marker and the sign of zero.
-- Assumes nothing.
use Rattle.std.specs.Prelude.{ℕ, ◌≡◌, ◌↔◌, ◌⊎◌, List, true, ℤ, pos, Option, Ok}
use Rattle.digits.specs.Digits.{significant}
use Rattle.answers.specs.Refusals.{is_count}
use Rattle.timecodes.specs.Timecode.{timecode}
use Rattle.film.specs.declared.FilmFormat.{FilmFormat}
use Rattle.footage_scan.specs.Shape.{FootageParts, FootageShape, has_perf}
use Rattle.footage_writer.specs.FootageText.{footage_text}
use Rattle.reading.specs.declared.Read.TheVariants.{Footage}
use Rattle.reading.specs.Shaped.{format_for}
use Rattle.reading.specs.Reading.{read_text}
use Rattle.reading.specs.Statements.{RateAndFormat, FootageText}

-- two fields are the same but for leading zeros
abbrev pub ButForZeros : (d e : List ℕ) → Type 0
ButForZeros d e = significant d ≡ significant e

-- the parts p of a text are the parts q of what is written for a count, but for leading zeros, a marker that p has not, and the sign of zero
pub record Alike (count : ℤ) (p q : FootageParts) : Type 0 where
  pub feet : ButForZeros p.feet q.feet
  pub frames : ButForZeros p.frames q.frames
  pub marker : has_perf p.perf ≡ true → (has_perf q.perf ≡ true) × ButForZeros p.perf q.perf
  pub sign : (p.minus ≡ q.minus) ⊎ (count ≡ pos 0)

-- a text, no field of over 9 digits, is so what the writer gives for a count in this film format: the stated one, or that which its marker
-- chooses
pub record AsWritten (l : List ℕ) (stated : Option ℕ) (format : FilmFormat) (count : ℤ) : Type 0 where
  pub parts : FootageParts
  pub text : FootageText l parts
  pub chosen : format_for stated (has_perf parts.perf) ≡ format
  pub written : FootageParts
  pub shape : FootageShape (footage_text format count) written
  pub alike : Alike count parts written

-- a text is read as a footage exactly when it is so what the writer gives for its count
abbrev pub ReadAsWritten : Type 0
ReadAsWritten =
    (l : List ℕ) (stated : Option ℕ) (rate : ℕ) (format : FilmFormat) (count : ℤ) → RateAndFormat stated rate
    → (read_text l stated rate ≡ Ok (Footage (timecode count rate) format)) ↔ (AsWritten l stated format count × (is_count count ≡ true))
