-- What is handed to C (BEHAVIOUR: Refusals): the numbers of each answer, its refusal's number among them (0: not refused).
-- Assumes nothing.
use Rattle.label_writer.specs.declared.TimecodeSections.{TimecodeSections}
use Rattle.answers.specs.declared.Refusal.{Refusal}
use Rattle.rates.specs.declared.Framerate.{Framerate}
use Rattle.film.specs.declared.FilmFormat.{FilmFormat}
use Rattle.std.specs.Prelude.{◌≡◌, false, Result, Ok, Err, ℤ, ℕ}
use Rattle.answers.specs.Causes.{refusal_number}
use Rattle.answers.specs.Refusals as answers
use Rattle.rates.specs.Rates as rates
use Rattle.timecodes.specs.declared.Timecode.{Timecode}
use Rattle.timecodes.specs.Kinds.{kind_from, is_position}
use Rattle.timecodes.specs.Timecode.{timecode_as}
use Rattle.timecodes.specs.Timecode as timecodes
use Rattle.film.specs.Film.{perfs_per_frame_of, perfs_per_foot_of, allows_perf_field}
use Rattle.time.specs.declared.Fraction.{Fraction}
use Rattle.time.specs.Ticks as ticks
use Rattle.time.specs.Seconds as seconds
use Rattle.reading.specs.declared.Read.{Read}
use Rattle.reading.specs.Answer as reading
use Rattle.arithmetic.specs.Compare as compare
use Rattle.label_writer.specs.Sections as sections
use Rattle.written.specs.Written as written
use Rattle.exports.specs.declared.handed.TzqTimecode.{TzqTimecode}
use Rattle.exports.specs.declared.handed.TzqCount.{TzqCount}
use Rattle.exports.specs.declared.handed.TzqRead.{TzqRead}
use Rattle.exports.specs.declared.handed.TzqOrder.{TzqOrder}
use Rattle.exports.specs.declared.handed.TzqTicks.{TzqTicks}
use Rattle.exports.specs.declared.handed.TzqSeconds.{TzqSeconds}
use Rattle.exports.specs.declared.handed.TzqConverted.{TzqConverted}
use Rattle.exports.specs.declared.handed.TzqSections.{TzqSections}
use Rattle.exports.specs.declared.handed.TzqLength.{TzqLength}
use Rattle.exports.specs.declared.handed.TzqRate.{TzqRate}
use Rattle.exports.specs.declared.handed.TzqFormat.{TzqFormat}

-- the timecode that C handed over: a count and a rate, a position or else a length
abbrev pub timecode_from : TzqTimecode → Timecode
timecode_from t = timecode_as (kind_from t.position) t.count t.rate

-- a refusal returns its number with count 0; a count alone is no position
unfoldable pub handed_count : Result ℤ Refusal → TzqCount
handed_count a = record { refused = answers.number_of a; count = answers.count_of a; position = false }

-- of a timecode its count, and whether it is a position
unfoldable pub handed_answer : Result Timecode Refusal → TzqCount
handed_answer a =
    let tc = timecodes.timecode_of a in
    record { refused = timecodes.number_of a; count = tc.count; position = is_position tc.kind }

-- a footage answer carries the count together with the film format chosen; a refusal of the text carries its place
unfoldable pub handed_read : Result Read Refusal → TzqRead
handed_read a =
    let tc = reading.timecode_of a in
    record {
      refused = reading.number_of a;
      count = tc.count;
      format = reading.format_of a;
      place = reading.place_of a;
      position = is_position tc.kind;
    }

-- a refused comparison has order 0
unfoldable pub handed_order : Result ℤ Refusal → TzqOrder
handed_order a = record { refused = compare.number_of a; order = compare.order_in a }

-- any other number in the answer is 0
unfoldable pub handed_ticks : Result ℤ Refusal → TzqTicks
handed_ticks a = record { refused = ticks.number_of a; ticks = ticks.ticks_in a }

-- a fraction 0/1
unfoldable pub handed_seconds : Result Fraction Refusal → TzqSeconds
handed_seconds a =
    record { refused = seconds.number_of a; numerator = seconds.numerator_of a; denominator = seconds.denominator_of a }

-- a timecode with its rate; of a refusal both are 0
unfoldable pub handed_timecode : Result Timecode Refusal → TzqConverted
handed_timecode a =
    record { refused = timecodes.number_of a; count = (timecodes.timecode_of a).count; rate = (timecodes.timecode_of a).rate }

-- the fields of the label, by name; of a refusal all are 0
unfoldable pub handed_sections : Result TimecodeSections Refusal → TzqSections
handed_sections a =
    let s = sections.sections_in a in
    record {
      refused = sections.number_of a;
      negative = s.negative;
      hours = s.hours;
      minutes = s.minutes;
      seconds = s.seconds;
      frames = s.frames;
    }

-- and length 0
unfoldable pub handed_length : Result ℕ Refusal → TzqLength
handed_length a = record { refused = answers.number_of a; length = written.length_of a }

-- the row of the table; of a refusal all numbers are 0
unfoldable pub handed_rate : Result Framerate Refusal → TzqRate
handed_rate a =
    let row = rates.row_of a in
    record {
      refused = rates.number_of a;
      numerator = row.numerator;
      denominator = row.denominator;
      timebase = row.timebase;
      ticks = row.ticks;
    }

-- the perfs a frame and a foot, and whether there is a perf field; of a refusal 0 and no
unfoldable pub handed_format : Result FilmFormat Refusal → TzqFormat
handed_format (Ok format) =
    record {
      refused = 0;
      perfs_per_frame = perfs_per_frame_of format;
      perfs_per_foot = perfs_per_foot_of format;
      perf_field = allows_perf_field format;
    }
handed_format (Err e) = record { refused = refusal_number e; perfs_per_frame = 0; perfs_per_foot = 0; perf_field = false }

-- the numbers of an answer that is right: the seconds of the timecode, or the first refusal
pub record SecondsHanded (tc : Timecode) (r : TzqSeconds) : Type 0 where
  pub answer : Result Fraction Refusal
  pub right : seconds.SecondsOf tc answer
  pub handed : r ≡ handed_seconds answer
