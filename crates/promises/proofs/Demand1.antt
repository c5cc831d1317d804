-- Demand 1, refusals: by cases on the answer, and for the line by what holds of every writer.
-- Assumes nothing.
use Rattle.label_writer.specs.declared.TimecodeSections.{TimecodeSections}
use Rattle.timecodes.specs.declared.Timecode.{Timecode}
use Rattle.answers.specs.declared.Refusal.{Refusal}
use Rattle.rates.specs.declared.Framerate.{Framerate}
use Rattle.film.specs.declared.FilmFormat.{FilmFormat}
use Rattle.std.specs.Prelude.{Result, Ok, Err, ℤ, ℕ}
use Prim.Native.Nat.{◌<◌}
use mathlib.Core.Path.{◌≡◌, refl}
use native.Mathlib.Omega.{arith}
use lib.IntN.{pos}
use Rattle.answers.specs.Refusals as count
use Rattle.rates.specs.Rates as rate
use Rattle.film.specs.Film as film
use Rattle.reading.specs.declared.Read.{Read}
use Rattle.reading.specs.declared.Read.TheVariants as read
use Rattle.reading.specs.Answer as text
use Rattle.time.specs.Ticks as ticks
use Rattle.time.specs.declared.Fraction.{Fraction}
use Rattle.time.specs.Seconds as seconds
use Rattle.arithmetic.specs.Compare as order
use Rattle.timecodes.specs.Timecode.{timecode}
use Rattle.timecodes.specs.Timecode as answered
use Rattle.answers.specs.Refusals.{number_of}
use Rattle.written.specs.Written.{Draft, Text, answer_to, line_to, length_of}
use Rattle.phrases.specs.Phrases.{phrase_of}
use Rattle.written.proofs.Statements.{refused_keeps}
use Rattle.label_writer.specs.Sections as fields
use Rattle.label_writer.specs.LabelText.{label_draft}
use Rattle.footage_writer.specs.FootageText.{footage_draft}
use Rattle.runtime_writer.specs.RuntimeText.{runtime_draft}
use Rattle.shot_writer.specs.ListText.{list_draft}
use Rattle.promises.specs.Demand1.{no_sections, RefusedZero, KeepsLine, RefusedKeepsLine}

-- ---- numbers
count-zero : (a : Result ℤ Refusal) → 0 < count.number_of a → count.count_of a ≡ pos 0
count-zero (Ok z) h = absurd (omega arith)
count-zero (Err e) h = refl

text-zero : (a : Result Read Refusal) → 0 < text.number_of a → (text.timecode_of a ≡ timecode (pos 0) 0) × (text.format_of a ≡ 0)
text-zero (Ok (read.Label z)) h = absurd (omega arith)
text-zero (Ok (read.Footage z format)) h = absurd (omega arith)
text-zero (Err e) h = (refl, refl)

ticks-zero : (a : Result ℤ Refusal) → 0 < ticks.number_of a → ticks.ticks_in a ≡ pos 0
ticks-zero (Ok t) h = absurd (omega arith)
ticks-zero (Err e) h = refl

seconds-zero : (a : Result Fraction Refusal) → 0 < seconds.number_of a → (seconds.numerator_of a ≡ pos 0) × (seconds.denominator_of a ≡ 1)
seconds-zero (Ok f) h = absurd (omega arith)
seconds-zero (Err e) h = (refl, refl)

order-zero : (a : Result ℤ Refusal) → 0 < order.number_of a → order.order_in a ≡ pos 0
order-zero (Ok o) h = absurd (omega arith)
order-zero (Err e) h = refl

answer-zero : (a : Result Timecode Refusal) → 0 < answered.number_of a → answered.timecode_of a ≡ timecode (pos 0) 0
answer-zero (Ok tc) h = absurd (omega arith)
answer-zero (Err e) h = refl

sections-zero : (a : Result TimecodeSections Refusal) → 0 < fields.number_of a → fields.sections_in a ≡ no_sections
sections-zero (Ok x) h = absurd (omega arith)
sections-zero (Err e) h = refl

row_zero : (a : Result Framerate Refusal) → 0 < rate.number_of a → rate.row_of a ≡ rate.framerate 0 0 0 0
row_zero (Ok r) h = absurd (omega arith)
row_zero (Err e) h = refl

format-zero : (a : Result FilmFormat Refusal) → 0 < film.number_of a → film.format_of a ≡ 0
format-zero (Ok f) h = absurd (omega arith)
format-zero (Err e) h = refl

pub refused_zero : RefusedZero
refused_zero = record {
  count = count-zero;
  text = text-zero;
  ticks = ticks-zero;
  seconds = seconds-zero;
  order = order-zero;
  answer = answer-zero;
  sections = sections-zero;
  row = row_zero;
  format = format-zero;
}

-- ---- lines
keeps_line : (draft : Draft) → KeepsLine draft
keeps_line draft line place h = by (answer_to line place draft) refl h
  where
    by : (a : Result ℕ Refusal) → answer_to line place draft ≡ a → 0 < number_of a → (length_of a ≡ 0) × (line_to line place draft ≡ line)
    by (Ok n) e h = absurd (omega arith)
    by (Err r) e h = (refl, refused_keeps line place draft r e)

pub refused_keeps_line : RefusedKeepsLine
refused_keeps_line = record {
  label = λ tc. keeps_line (label_draft tc);
  footage = λ tc format. keeps_line (footage_draft tc format);
  runtime = λ tc precision. keeps_line (runtime_draft tc precision);
  list = λ given. keeps_line (list_draft given);
  phrase = λ number. keeps_line (Text (phrase_of number));
}
