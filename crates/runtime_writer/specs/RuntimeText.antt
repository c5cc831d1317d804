-- Runtime out (BEHAVIOUR: Time): the text of a count's time at a rate, to a precision, and when there is none.
-- Assumes nothing.
use Rattle.std.specs.Prelude.{ℕ, ◌*◌, ◌/◌, ◌%◌, ◌^◌, Bool, not, List, [], ◌∷◌, ◌++◌, leb, ℤ, nat_abs}
use Rattle.numbers.specs.Sign.{is_neg}
use Rattle.numbers.specs.Nearest.{nearest_n}
use Rattle.answers.specs.Order.{Condition, when, unless}
use Rattle.answers.specs.Refusals.{out_of_bounds}
use Rattle.rates.specs.Rates.{rate_row}
use Rattle.timecodes.specs.declared.Timecode.{Timecode}
use Rattle.timecodes.specs.Admitted.{admits}
use Rattle.digits.specs.Digits.{digits_of}
use Rattle.written.specs.Written.{Draft, Text, NoText}
use Rattle.written.specs.Clock.{clock_text}
use Rattle.runtime_writer.specs.declared.Tail.{Tail}
use Rattle.runtime_writer.specs.Fraction.{fraction_text}

-- the absolute time of f frames, rounded once to the precision k, halves away from zero: in units of 10 ^ k a second
unfoldable pub runtime_units : (rate k f : ℕ) → ℕ
runtime_units rate k f = nearest_n (f * (rate_row rate).denominator * 10 ^ k) (rate_row rate).numerator

-- carried into seconds, minutes and hours
abbrev pub clock_hours : (seconds : ℕ) → ℕ
clock_hours seconds = seconds / 3600

abbrev pub clock_minutes : (seconds : ℕ) → ℕ
clock_minutes seconds = seconds / 60 % 60

abbrev pub clock_seconds : (seconds : ℕ) → ℕ
clock_seconds seconds = seconds % 60

-- hours, minutes and seconds of two digits at least, `-` in front if the count is below 0
abbrev pub seconds_text : (minus : Bool) (seconds : ℕ) → List ℕ
seconds_text minus seconds = clock_text minus (clock_hours seconds) (clock_minutes seconds) (clock_seconds seconds)

-- then `.` and what is left of a second
unfoldable pub units_text : (minus : Bool) (k units : ℕ) → List ℕ
units_text minus k units = seconds_text minus (units / 10 ^ k) ++ (46 ∷ fraction_text k (units % 10 ^ k))

-- the same where the digits of the fraction that are written are known
abbrev pub tail_text : (minus : Bool) (seconds : ℕ) → Tail → List ℕ
tail_text minus seconds tail = seconds_text minus seconds ++ (46 ∷ digits_of tail.width tail.value)

-- the text of the runtime
unfoldable pub runtime_text : (rate k : ℕ) (count : ℤ) → List ℕ
runtime_text rate k count = units_text (is_neg count) k (runtime_units rate k (nat_abs count))

-- 5: a precision above 6
abbrev pub bad_precision : (precision : ℕ) → Condition
bad_precision precision = when out_of_bounds (not (leb precision 6))

-- what leaves no text: 6, no such rate; 5, a count out of its bounds; 5, a precision out of its bounds
abbrev pub runtime_when : Timecode → (precision : ℕ) → List Condition
runtime_when tc precision = admits tc ++ (bad_precision precision ∷ [])

unfoldable pub runtime_draft : Timecode → (precision : ℕ) → Draft
runtime_draft tc precision = unless NoText (runtime_when tc precision) (Text (runtime_text tc.rate precision tc.count))
