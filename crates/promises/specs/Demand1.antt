-- Demand 1, refusals: a refusal gives its number with count 0 and its place, and changes no byte of a lent buffer. When it is given, and
-- with which place: When.antt, and for the text reader specs/Statements.antt of `reading`.
-- Assumes nothing.
use Rattle.answers.specs.declared.Refusal.{Refusal}
use Rattle.rates.specs.declared.Framerate.{Framerate}
use Rattle.film.specs.declared.FilmFormat.{FilmFormat}
use Rattle.std.specs.Prelude.{ℕ, ◌<◌, ◌≡◌, false, List, ℤ, pos, Result}
use Rattle.answers.specs.Refusals as counted
use Rattle.rates.specs.Rates.{no_row}
use Rattle.rates.specs.Rates as rated
use Rattle.timecodes.specs.declared.Timecode.{Timecode}
use Rattle.timecodes.specs.Timecode.{timecode}
use Rattle.timecodes.specs.Timecode as answered
use Rattle.film.specs.Film as filmed
use Rattle.reading.specs.declared.Read.{Read}
use Rattle.reading.specs.Answer as read
use Rattle.time.specs.Ticks as ticked
use Rattle.time.specs.declared.Fraction.{Fraction}
use Rattle.time.specs.Seconds as timed
use Rattle.arithmetic.specs.Compare as compared
use Rattle.answers.specs.Refusals.{number_of}
use Rattle.written.specs.Written.{Draft, Text, answer_to, line_to, length_of}
use Rattle.phrases.specs.Phrases.{phrase_of}
use Rattle.label_writer.specs.declared.TimecodeSections.{TimecodeSections}
use Rattle.label_writer.specs.Sections as sectioned
use Rattle.label_writer.specs.LabelText.{label_draft}
use Rattle.footage_writer.specs.FootageText.{footage_draft}
use Rattle.runtime_writer.specs.RuntimeText.{runtime_draft}
use Rattle.shot_writer.specs.ListText.{list_draft}

-- the sections of no label: all 0
abbrev pub no_sections : TimecodeSections
no_sections = record { negative = false; hours = 0; minutes = 0; seconds = 0; frames = 0 }

-- a refusal gives its number with count 0; but for its place any other number in the answer is 0, a fraction 0/1: of every kind of answer
pub record RefusedZero : Type 0 where
  pub count : (a : Result ℤ Refusal) → 0 < counted.number_of a → counted.count_of a ≡ pos 0
  pub text : (a : Result Read Refusal) → 0 < read.number_of a → (read.timecode_of a ≡ timecode (pos 0) 0) × (read.format_of a ≡ 0)
  pub ticks : (a : Result ℤ Refusal) → 0 < ticked.number_of a → ticked.ticks_in a ≡ pos 0
  pub seconds : (a : Result Fraction Refusal) → 0 < timed.number_of a → (timed.numerator_of a ≡ pos 0) × (timed.denominator_of a ≡ 1)
  pub order : (a : Result ℤ Refusal) → 0 < compared.number_of a → compared.order_in a ≡ pos 0
  pub answer : (a : Result Timecode Refusal) → 0 < answered.number_of a → answered.timecode_of a ≡ timecode (pos 0) 0
  pub sections : (a : Result TimecodeSections Refusal) → 0 < sectioned.number_of a → sectioned.sections_in a ≡ no_sections
  pub row : (a : Result Framerate Refusal) → 0 < rated.number_of a → rated.row_of a ≡ no_row
  pub format : (a : Result FilmFormat Refusal) → 0 < filmed.number_of a → filmed.format_of a ≡ 0

-- where a writer refuses, whatever the line and the place, its length is 0, and no byte of the line changes
abbrev pub KeepsLine : Draft → Type 0
KeepsLine draft =
    (line : List ℕ) (place : ℕ) → 0 < number_of (answer_to line place draft)
    → (length_of (answer_to line place draft) ≡ 0) × (line_to line place draft ≡ line)

-- each writer does so
pub record RefusedKeepsLine : Type 0 where
  pub label : (tc : Timecode) → KeepsLine (label_draft tc)
  pub footage : (tc : Timecode) (format : ℕ) → KeepsLine (footage_draft tc format)
  pub runtime : (tc : Timecode) (precision : ℕ) → KeepsLine (runtime_draft tc precision)
  pub list : (given : List ℤ) → KeepsLine (list_draft given)
  pub phrase : (number : ℕ) → KeepsLine (Text (phrase_of number))
