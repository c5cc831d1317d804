-- The sections of a timecode's label (BEHAVIOUR: Labels and counts): the sign, and the fields of the one allowed label whose count is the absolute count.
-- Assumes nothing.
use Rattle.answers.specs.declared.Refusal.{Refusal}
use Rattle.std.specs.Prelude.{ℕ, List, false, ℤ, nat_abs, Result, Ok, Err}
use Rattle.numbers.specs.Sign.{is_neg}
use Rattle.answers.specs.Causes.{refusal_number}
use Rattle.answers.specs.Order.{unless}
use Rattle.rates.specs.Rates.{rate_row, drop_frames}
use Rattle.timecodes.specs.declared.Timecode.{Timecode}
use Rattle.timecodes.specs.Admitted.{admits}
use Rattle.labels.specs.Label.{hours_in, minutes_in, seconds_in, frames_in}
use Rattle.labels.specs.Sections.{sections_of}
use Rattle.label_writer.specs.declared.TimecodeSections.{TimecodeSections}

-- the fields are those of the one allowed label, with minutes and seconds under 60 and frames under the timebase, whose count is the
-- absolute count (that there is one, and one only: HasLabel and OneLabel of `labels`)
unfoldable pub label_fields : (rate : ℕ) (count : ℤ) → List ℕ
label_fields rate count = sections_of (rate_row rate).timebase (drop_frames rate) (nat_abs count)

-- the same with the sign, by name
unfoldable pub label_sections : (rate : ℕ) (count : ℤ) → TimecodeSections
label_sections rate count =
    let fields = label_fields rate count in
    record {
      negative = is_neg count;
      hours = hours_in fields;
      minutes = minutes_in fields;
      seconds = seconds_in fields;
      frames = frames_in fields;
    }

-- 6: no such rate; then 5: a count out of its bounds
unfoldable pub sectioned : Timecode → Result TimecodeSections Refusal
sectioned tc = unless Err (admits tc) (Ok (label_sections tc.rate tc.count))

-- the number of an answer (0: not refused), and its sections (a refusal's numbers are 0)
abbrev pub number_of : Result TimecodeSections Refusal → ℕ
number_of (Ok s) = 0
number_of (Err e) = refusal_number e

abbrev pub sections_in : Result TimecodeSections Refusal → TimecodeSections
sections_in (Ok s) = s
sections_in (Err e) = record { negative = false; hours = 0; minutes = 0; seconds = 0; frames = 0 }
