-- What is handed to C of why a text is read as it is (BEHAVIOUR: Why): what tzq_read hands over, the numbers of the fact, and the phrase's length.
-- Assumes nothing.
use Rattle.answers.specs.Causes.{refusal_number}
use Rattle.std.specs.Prelude.{ℕ, Bool, true, false, pos, Option, Some, None, Result, Ok, Err}
use Rattle.numbers.specs.Sign.{signed}
use Rattle.numbers.specs.Total.{fitted}
use Rattle.answers.specs.declared.Refusal.{Refusal}
use Rattle.faults.specs.declared.Field.{Field}
use Rattle.faults.specs.declared.Field.TheVariants.{Count, Sign, Hours, Minutes, Seconds, Frames, Marker}
use Rattle.faults.specs.declared.Fault.{Fault}
use Rattle.label_writer.specs.declared.TimecodeSections.{TimecodeSections}
use Rattle.reasons.specs.declared.Fact.{Fact}
use Rattle.reasons.specs.declared.Fact.TheVariants.{Limit, First}
use Rattle.reasons.specs.declared.Reason.{Reason}
use Rattle.exports.specs.declared.why.FactNumbers.{FactNumbers}
use Rattle.exports.specs.declared.why.TzqReason.{TzqReason}
use Rattle.exports.specs.Handed.{handed_read}

-- the film format counts only where one is stated
abbrev pub stated_from : (stated : Bool) (format : ℕ) → Option ℕ
stated_from true format = Some format
stated_from false format = None

-- what the limit and the value speak of; 0 is no field's
abbrev pub field_number : Field → ℕ
field_number Count = 1
field_number Sign = 2
field_number Hours = 3
field_number Minutes = 4
field_number Seconds = 5
field_number Frames = 6
field_number Marker = 7

-- ---- the numbers of a fact
-- none: all are 0
unfoldable pub no_fact : FactNumbers
no_fact = record { field = 0; limit = pos 0; value = pos 0; negative = false; hours = 0; minutes = 0; seconds = 0; frames = 0 }

-- a field with its limit and its value, each with its sign (0 in place of one of 2 ^ 63 or more, which no field comes to)
unfoldable pub limit_fact : Fault → FactNumbers
limit_fact f =
    record {
      field = field_number f.field;
      limit = fitted f.limit (signed f.minus f.limit);
      value = fitted f.value (signed f.minus f.value);
      negative = false;
      hours = 0;
      minutes = 0;
      seconds = 0;
      frames = 0;
    }

-- the fields of the first allowed label
unfoldable pub first_fact : TimecodeSections → FactNumbers
first_fact s =
    record {
      field = 0;
      limit = pos 0;
      value = pos 0;
      negative = s.negative;
      hours = s.hours;
      minutes = s.minutes;
      seconds = s.seconds;
      frames = s.frames;
    }

abbrev pub fact_numbers : Option Fact → FactNumbers
fact_numbers None = no_fact
fact_numbers (Some (Limit f)) = limit_fact f
fact_numbers (Some (First s)) = first_fact s

-- ---- what is handed over
-- what tzq_read hands over, its refusal as the number, the numbers of the fact, and the phrase's length
unfoldable pub told_reason : Reason → TzqReason
told_reason r =
    let a = handed_read r.read in
    let n = fact_numbers r.fact in
    record {
      refused = 0;
      number = a.refused;
      place = a.place;
      count = a.count;
      format = a.format;
      position = a.position;
      field = n.field;
      limit = n.limit;
      value = n.value;
      negative = n.negative;
      hours = n.hours;
      minutes = n.minutes;
      seconds = n.seconds;
      frames = n.frames;
      length = r.length;
    }

-- a refusal returns its number; every other number is 0
unfoldable pub no_reason : Refusal → TzqReason
no_reason e =
    record {
      refused = refusal_number e;
      number = 0;
      place = 0;
      count = pos 0;
      format = 0;
      position = false;
      field = 0;
      limit = pos 0;
      value = pos 0;
      negative = false;
      hours = 0;
      minutes = 0;
      seconds = 0;
      frames = 0;
      length = 0;
    }

abbrev pub handed_reason : Result Reason Refusal → TzqReason
handed_reason (Ok r) = told_reason r
handed_reason (Err e) = no_reason e
