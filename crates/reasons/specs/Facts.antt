-- The fact behind a number (BEHAVIOUR: Why), by the reader's own steps. What it says of the text is said in Statements.antt.
-- Assumes nothing.
use Rattle.faults.specs.declared.Fault.{Fault}
use Rattle.std.specs.Prelude.{ℕ, ◌+◌, ◌/◌, ◌%◌, Bool, cond, List, eqb, Option, Some, None}
use Rattle.faults.specs.Faults.{count_fault}
use Rattle.rates.specs.Rates.{drop_frames}
use Rattle.film.specs.declared.FilmFormat.{FilmFormat}
use Rattle.film.specs.Footage.{footage_or}
use Rattle.film.specs.Faults.{film_fault}
use Rattle.labels.specs.Label.{hours_in, minutes_in, Short}
use Rattle.labels.specs.AtRate.{frames_or}
use Rattle.label_writer.specs.declared.TimecodeSections.{TimecodeSections}
use Rattle.reading.specs.Shaped.{Shaped, label, footage, refused, format_for}
use Rattle.reading.specs.For.{position_fault}
use Rattle.reasons.specs.declared.Fact.{Fact}
use Rattle.reasons.specs.declared.Fact.TheVariants.{Limit, First}

-- a fault's limit and value
abbrev pub limit_from : Option Fault → Option Fact
limit_from None = None
limit_from (Some f) = Some (Limit f)

-- the first label of the minute that is kept: frames D, minutes past 59 carried into hours, the sign kept
unfoldable pub first_label : (D : ℕ) (minus : Bool) (fields : List ℕ) → TimecodeSections
first_label D minus fields =
    record {
      negative = minus;
      hours = hours_in fields + minutes_in fields / 60;
      minutes = minutes_in fields % 60;
      seconds = 0;
      frames = D;
    }

-- of a label: 3 shows that label, 5 the count, 14 the sign or else the leftmost field
unfoldable pub label_fact : (number rate : ℕ) (minus : Bool) (fields : List ℕ) → Option Fact
label_fact number rate minus fields =
    cond (eqb number 3) (Some (First (first_label (drop_frames rate) minus fields)))
    (cond (eqb number 5) (limit_from (count_fault minus (frames_or rate fields)))
    (cond (eqb number 14) (limit_from (position_fault rate minus fields))
    None))

-- of a footage: 5 shows the count, 13 the frames number or else the marker
unfoldable pub footage_fact : (number : ℕ) → FilmFormat → (minus : Bool) (feet frames : ℕ) (perf : Bool) (marker : ℕ) → Option Fact
footage_fact number format minus feet frames perf marker =
    cond (eqb number 5) (limit_from (count_fault minus (footage_or format feet frames)))
    (cond (eqb number 13) (limit_from (film_fault format feet frames perf marker))
    None)

-- by the shape that the text has
abbrev pub fact_by : (number rate : ℕ) → Option ℕ → Shaped → Option Fact
fact_by number rate stated (label minus fields) = label_fact number rate minus fields
fact_by number rate stated (footage minus feet frames perf marker) = footage_fact number (format_for stated perf) minus feet frames perf marker
fact_by number rate stated (refused e) = None

-- a label's fields have at most 9 digits
abbrev pub ShortLabel : Shaped → Type 0
ShortLabel (label minus fields) = Short fields
ShortLabel (footage minus feet frames perf marker) = Unit {0}
ShortLabel (refused e) = Unit {0}
