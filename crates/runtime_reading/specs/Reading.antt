-- Runtime in (BEHAVIOUR: Time): the length that a runtime's text reads as, of which `settled` makes a position; the conditions in their order.
-- Assumes nothing.
use Rattle.timecodes.specs.declared.Timecode.{Timecode}
use Rattle.answers.specs.declared.Refusal.{Refusal}
use Rattle.std.specs.Prelude.{ℕ, ◌+◌, ◌*◌, Bool, List, [], ◌∷◌, ℤ, get_or, Result, Ok, Err}
use Rattle.numbers.specs.Sign.{signed}
use Rattle.numbers.specs.Nearest.{nearest_z}
use Rattle.answers.specs.Order.{unless}
use Rattle.answers.specs.Refusals.{no_shape, too_long, bad_count}
use Rattle.rates.specs.Rates.{rate_row, bad_rate}
use Rattle.timecodes.specs.Timecode.{timecode}
use Rattle.scanner.specs.declared.text.Misfit.{Misfit}
use Rattle.scanner.specs.declared.text.Misfit.TheVariants.{TooLong, NoShape}
use Rattle.runtime_scan.specs.declared.RuntimeScan.{RuntimeScan}
use Rattle.runtime_scan.specs.Runtime.{runtime_scan}

-- hours, minutes and seconds, the last three of four fields, in seconds; values are not held under 60
abbrev pub whole_seconds : (fields : List ℕ) → ℕ
whole_seconds fields = 3600 * get_or fields 1 0 + 60 * get_or fields 2 0 + get_or fields 3 0

-- the exact time, in millionths of a second
abbrev pub time_in : (fields : List ℕ) (millionths : ℕ) → ℕ
time_in fields millionths = 1_000_000 * whole_seconds fields + millionths

-- a runtime becomes the nearest frame, halves away from zero: its time times the frames of a second, rounded once
unfoldable pub runtime_frame : (rate : ℕ) (minus : Bool) (time : ℕ) → ℤ
runtime_frame rate minus time =
    nearest_z (signed minus (time * (rate_row rate).numerator)) (1_000_000 * (rate_row rate).denominator)

-- 5: the resulting count is outside its bounds; else it, at the rate
unfoldable pub time_read : (rate : ℕ) (minus : Bool) (time : ℕ) → Result Timecode Refusal
time_read rate minus time =
    unless Err (bad_count (runtime_frame rate minus time) ∷ []) (Ok (timecode (runtime_frame rate minus time) rate))

-- 1: no shape; 2: the shape fits, but something is too long; both without a place
abbrev pub read_scan : (rate : ℕ) → Result RuntimeScan Misfit → Result Timecode Refusal
read_scan rate (Ok scan) = time_read rate scan.minus (time_in scan.fields scan.millionths)
read_scan rate (Err (TooLong place)) = Err too_long
read_scan rate (Err (NoShape stop)) = Err no_shape

-- 6: no such rate (1 to 12); then what the shape gives
unfoldable pub read_runtime : (text : List ℕ) (rate : ℕ) → Result Timecode Refusal
read_runtime text rate = unless Err (bad_rate rate ∷ []) (read_scan rate (runtime_scan text))
