-- What C is handed by every other function: each field of the struct, in the cases of the answer; of a refusal its number, and zeros.
-- Assumes nothing.
use Rattle.label_writer.specs.declared.TimecodeSections.{TimecodeSections}
use Rattle.rates.specs.declared.Framerate.{Framerate}
use Rattle.film.specs.declared.FilmFormat.{FilmFormat}
use Rattle.std.specs.Prelude.{ℕ, ◌+◌, ◌≤◌, ◌<◌, ◌≡◌, List, false, pos, length, Result, Ok, Err, ℤ}
use Rattle.outcomes.specs.Outcome.{Gives}
use Rattle.answers.specs.declared.Refusal.{Refusal}
use Rattle.answers.specs.Causes.{refusal_number}
use Rattle.answers.specs.Order.{judged}
use Rattle.rates.specs.Rates.{rate_at}
use Rattle.timecodes.specs.declared.Timecode.{Timecode}
use Rattle.timecodes.specs.Admitted.{admits}
use Rattle.timecodes.specs.Instant.{instant}
use Rattle.film.specs.Film.{perfs_per_frame_of, perfs_per_foot_of, allows_perf_field, format_at}
use Rattle.minutes.specs.Minutes.{minute_at}
use Rattle.time.specs.Ticks.{ticks_of}
use Rattle.time.specs.Seconds.{InSeconds}
use Rattle.arithmetic.specs.Compare.{compare_of}
use Rattle.chains.specs.Chain.{convert_of}
use Rattle.label_writer.specs.Sections as label
use Rattle.label_writer.specs.LabelText.{label_draft}
use Rattle.footage_writer.specs.FootageText.{footage_draft}
use Rattle.runtime_writer.specs.RuntimeText.{runtime_draft}
use Rattle.shot_writer.specs.ListText.{list_draft}
use Rattle.written.specs.Written.{Draft, Text, NoText}
use Rattle.exports.specs.declared.handed.TzqCount.{TzqCount}
use Rattle.exports.specs.declared.handed.TzqOrder.{TzqOrder}
use Rattle.exports.specs.declared.handed.TzqTicks.{TzqTicks}
use Rattle.exports.specs.declared.handed.TzqSeconds.{TzqSeconds}
use Rattle.exports.specs.declared.handed.TzqConverted.{TzqConverted}
use Rattle.exports.specs.declared.handed.TzqSections.{TzqSections}
use Rattle.exports.specs.declared.handed.TzqLength.{TzqLength}
use Rattle.exports.specs.declared.handed.TzqRate.{TzqRate}
use Rattle.exports.specs.declared.handed.TzqFormat.{TzqFormat}
use Rattle.exports.specs.Handed.{timecode_from}
use Rattle.exports.specs.contracts.times.tzq_premiere_ticks as tzq_premiere_ticks
use Rattle.exports.proofs.times.tzq_premiere_ticks.Reads as tzq-premiere-ticks-reads
use Rattle.exports.specs.contracts.times.tzq_seconds as tzq_seconds
use Rattle.exports.proofs.times.tzq_seconds.Reads as tzq-seconds-reads
use Rattle.exports.specs.contracts.times.tzq_convert as tzq_convert
use Rattle.exports.proofs.times.tzq_convert.Reads as tzq-convert-reads
use Rattle.exports.specs.contracts.sums.tzq_cmp as tzq_cmp
use Rattle.exports.proofs.sums.tzq_cmp.Reads as tzq-cmp-reads
use Rattle.exports.specs.contracts.writes.tzq_sections as tzq_sections
use Rattle.exports.proofs.writes.tzq_sections.Reads as tzq-sections-reads
use Rattle.exports.specs.contracts.writes.tzq_write_label as tzq_write_label
use Rattle.exports.proofs.writes.tzq_write_label.Reads as tzq-write-label-reads
use Rattle.exports.specs.contracts.writes.tzq_write_footage as tzq_write_footage
use Rattle.exports.proofs.writes.tzq_write_footage.Reads as tzq-write-footage-reads
use Rattle.exports.specs.contracts.writes.tzq_write_runtime as tzq_write_runtime
use Rattle.exports.proofs.writes.tzq_write_runtime.Reads as tzq-write-runtime-reads
use Rattle.exports.specs.contracts.lists.tzq_write_list as tzq_write_list
use Rattle.exports.proofs.lists.tzq_write_list.Reads as tzq-write-list-reads
use Rattle.exports.specs.contracts.tables.tzq_rate as tzq_rate
use Rattle.exports.proofs.tables.tzq_rate.Reads as tzq-rate-reads
use Rattle.exports.specs.contracts.tables.tzq_drop_frames_per_minute as tzq_drop_frames_per_minute
use Rattle.exports.proofs.tables.tzq_drop_frames_per_minute.Reads as tzq-drop-frames-per-minute-reads
use Rattle.exports.specs.contracts.tables.tzq_format as tzq_format
use Rattle.exports.proofs.tables.tzq_format.Reads as tzq-format-reads
use Rattle.exports.specs.contracts.tables.tzq_minute_start as tzq_minute_start
use Rattle.exports.proofs.tables.tzq_minute_start.Reads as tzq-minute-start-reads

-- ---- numbers
-- a count alone is no position
abbrev pub CountIs : TzqCount → Result ℤ Refusal → Type 0
CountIs t (Ok z) = (t.refused ≡ 0) × (t.count ≡ z) × (t.position ≡ false)
CountIs t (Err e) = (t.refused ≡ refusal_number e) × (t.count ≡ pos 0) × (t.position ≡ false)

abbrev pub OrderIs : TzqOrder → Result ℤ Refusal → Type 0
OrderIs t (Ok o) = (t.refused ≡ 0) × (t.order ≡ o)
OrderIs t (Err e) = (t.refused ≡ refusal_number e) × (t.order ≡ pos 0)

abbrev pub TicksAre : TzqTicks → Result ℤ Refusal → Type 0
TicksAre t (Ok n) = (t.refused ≡ 0) × (t.ticks ≡ n)
TicksAre t (Err e) = (t.refused ≡ refusal_number e) × (t.ticks ≡ pos 0)

-- a timecode with its rate
abbrev pub ConvertedIs : TzqConverted → Result Timecode Refusal → Type 0
ConvertedIs t (Ok tc) = (t.refused ≡ 0) × (t.count ≡ tc.count) × (t.rate ≡ tc.rate)
ConvertedIs t (Err e) = (t.refused ≡ refusal_number e) × (t.count ≡ pos 0) × (t.rate ≡ 0)

-- the seconds of the timecode as numerator and denominator; of its first refusal 0/1
pub record SecondsAre (tc : Timecode) (t : TzqSeconds) : Type 0 where
  pub refused :
      (e : Refusal) → judged (admits tc) ≡ Err e → (t.refused ≡ refusal_number e) × (t.numerator ≡ pos 0) × (t.denominator ≡ 1)
  pub seconds : judged (admits tc) ≡ (Ok tt) → (t.refused ≡ 0) × InSeconds (instant tc) t.numerator t.denominator

-- ---- texts
-- the label's sign and its fields by name
abbrev pub SectionsAre : TzqSections → Result TimecodeSections Refusal → Type 0
SectionsAre t (Ok s) =
    (t.refused ≡ 0) × (t.negative ≡ s.negative) × (t.hours ≡ s.hours) × (t.minutes ≡ s.minutes) × (t.seconds ≡ s.seconds)
    × (t.frames ≡ s.frames)
SectionsAre t (Err e) =
    (t.refused ≡ refusal_number e) × (t.negative ≡ false) × (t.hours ≡ 0) × (t.minutes ≡ 0) × (t.seconds ≡ 0) × (t.frames ≡ 0)

-- a text that has room: its length; one that has none: 8, and length 0; no text: why not, and length 0
abbrev pub LengthIs : TzqLength → (line : List ℕ) (place : ℕ) → Draft → Type 0
LengthIs t line place (Text text) =
    (place + length text ≤ length line → (t.refused ≡ 0) × (t.length ≡ length text))
    × (length line < place + length text → (t.refused ≡ 8) × (t.length ≡ 0))
LengthIs t line place (NoText e) = (t.refused ≡ refusal_number e) × (t.length ≡ 0)

-- ---- the tables
abbrev pub RateIs : TzqRate → Result Framerate Refusal → Type 0
RateIs t (Ok r) =
    (t.refused ≡ 0) × (t.numerator ≡ r.numerator) × (t.denominator ≡ r.denominator) × (t.timebase ≡ r.timebase) × (t.ticks ≡ r.ticks)
RateIs t (Err e) = (t.refused ≡ refusal_number e) × (t.numerator ≡ 0) × (t.denominator ≡ 0) × (t.timebase ≡ 0) × (t.ticks ≡ 0)

abbrev pub FormatIs : TzqFormat → Result FilmFormat Refusal → Type 0
FormatIs t (Ok film) =
    (t.refused ≡ 0) × (t.perfs_per_frame ≡ perfs_per_frame_of film) × (t.perfs_per_foot ≡ perfs_per_foot_of film)
    × (t.perf_field ≡ allows_perf_field film)
FormatIs t (Err e) = (t.refused ≡ refusal_number e) × (t.perfs_per_frame ≡ 0) × (t.perfs_per_foot ≡ 0) × (t.perf_field ≡ false)

-- 2 at rate 5, 4 at rate 11, 0 for every other number
pub record DropsAre (rate drops : ℕ) : Type 0 where
  pub at_5 : rate ≡ 5 → drops ≡ 2
  pub at_11 : rate ≡ 11 → drops ≡ 4
  pub elsewhere : (rate ≡ 5 → ⊥) → (rate ≡ 11 → ⊥) → drops ≡ 0

-- so it is of whatever the contracts of these functions for C allow
pub record AnswersForC : Type 0 where
  pub premiere_ticks : Gives tzq_premiere_ticks.ended tzq-premiere-ticks-reads.Learnt (λ κs a x. TicksAre x.0 (ticks_of (timecode_from a.0)))
  pub seconds : Gives tzq_seconds.ended tzq-seconds-reads.Learnt (λ κs a x. SecondsAre (timecode_from a.0) x.0)
  pub convert : Gives tzq_convert.ended tzq-convert-reads.Learnt (λ κs a x. ConvertedIs x.0 (convert_of (timecode_from a.0) a.1.0.now))
  pub cmp : Gives tzq_cmp.ended tzq-cmp-reads.Learnt (λ κs a x. OrderIs x.0 (compare_of (timecode_from a.0) (timecode_from a.1.0)))
  pub sections : Gives tzq_sections.ended tzq-sections-reads.Learnt (λ κs a x. SectionsAre x.0 (label.sectioned (timecode_from a.0)))
  pub write_label : Gives tzq_write_label.ended tzq-write-label-reads.Learnt (λ κs a x.
      LengthIs x.0 a.1.0.now a.1.1.0 (label_draft (timecode_from a.0)))
  pub write_footage : Gives tzq_write_footage.ended tzq-write-footage-reads.Learnt (λ κs a x.
      LengthIs x.0 a.1.1.0.now a.1.1.1.0 (footage_draft (timecode_from a.0) a.1.0))
  pub write_runtime : Gives tzq_write_runtime.ended tzq-write-runtime-reads.Learnt (λ κs a x.
      LengthIs x.0 a.1.1.0.now a.1.1.1.0 (runtime_draft (timecode_from a.0) a.1.0))
  pub write_list : Gives tzq_write_list.ended tzq-write-list-reads.Learnt (λ κs a x.
      LengthIs x.0 a.1.0.now a.1.1.0 (list_draft a.0.now))
  pub rate : Gives tzq_rate.ended tzq-rate-reads.Learnt (λ κs a x. RateIs x.0 (rate_at a.0))
  pub drop-frames-per-minute : Gives tzq_drop_frames_per_minute.ended tzq-drop-frames-per-minute-reads.Learnt (λ κs a x. DropsAre a.0 x.0)
  pub format : Gives tzq_format.ended tzq-format-reads.Learnt (λ κs a x. FormatIs x.0 (format_at a.0))
  pub minute-start : Gives tzq_minute_start.ended tzq-minute-start-reads.Learnt (λ κs a x. CountIs x.0 (minute_at a.0))
