-- What is written is read back: labels at every rate, footage in every film format.
-- Assumes nothing.
use Rattle.std.specs.Prelude.{ℕ, ◌≡◌, true, ℤ, Some, None, Ok}
use Rattle.answers.specs.Refusals.{is_count}
use Rattle.rates.specs.Rates.{is_rate}
use Rattle.timecodes.specs.Timecode.{timecode}
use Rattle.film.specs.declared.FilmFormat.{FilmFormat}
use Rattle.film.specs.declared.FilmFormat.TheVariants.{FF35mm4perf, FF35mm3perf}
use Rattle.film.specs.Film.{format_number}
use Rattle.reading.specs.declared.Read.TheVariants.{Label, Footage}
use Rattle.reading.specs.Reading.{read_text}
use Rattle.label_writer.specs.LabelText.{label_text}
use Rattle.footage_writer.specs.FootageText.{footage_text}

-- at every rate, the label of any count within its bounds is read as that count
abbrev pub LabelsReadBack : Type 0
LabelsReadBack =
    (rate : ℕ) (count : ℤ) → is_rate rate ≡ true → is_count count ≡ true
    → read_text (label_text rate count) None rate ≡ Ok (Label (timecode count rate))

-- in every film format, the footage of any count within its bounds is read, with that format stated, as that count in that format
abbrev pub FootageReadBack : Type 0
FootageReadBack =
    (format : FilmFormat) (rate : ℕ) (count : ℤ) → is_rate rate ≡ true → is_count count ≡ true
    → read_text (footage_text format count) (Some (format_number format)) rate ≡ Ok (Footage (timecode count rate) format)

-- with none stated, the footage of 4-perf and of 3-perf is read in its own format
abbrev pub UnstatedReadBack : Type 0
UnstatedReadBack =
    (rate : ℕ) (count : ℤ) → is_rate rate ≡ true → is_count count ≡ true
    → (read_text (footage_text FF35mm4perf count) None rate ≡ Ok (Footage (timecode count rate) FF35mm4perf))
    × (read_text (footage_text FF35mm3perf count) None rate ≡ Ok (Footage (timecode count rate) FF35mm3perf))
