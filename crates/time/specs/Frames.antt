-- Time, in (BEHAVIOUR: Time): a count, ticks and seconds become a length. Each has its conditions in order, and its frame. Positions: `settled`.
-- Assumes nothing.
use Rattle.timecodes.specs.declared.Timecode.{Timecode}
use Rattle.answers.specs.declared.Refusal.{Refusal}
use Rattle.std.specs.Prelude.{ℕ, ◌*◌, List, [], ◌∷◌, ℤ, pos, ◌*ℤ◌, Result, Ok, Err}
use Rattle.numbers.specs.Nearest.{nearest_z}
use Rattle.answers.specs.Order.{Condition, unless}
use Rattle.answers.specs.Refusals.{bad_count}
use Rattle.rates.specs.Rates.{rate_row, frame_ticks, bad_rate}
use Rattle.timecodes.specs.Timecode.{timecode}
use Rattle.timecodes.specs.Admitted.{admits}
use Rattle.time.specs.Bounds.{bad_seconds}

-- a count at a rate: 6, 5
abbrev pub frames_when : (count : ℤ) (rate : ℕ) → List Condition
frames_when count rate = admits (timecode count rate)

-- else the count
unfoldable pub frames_at : (count : ℤ) (rate : ℕ) → Result Timecode Refusal
frames_at count rate = unless Err (frames_when count rate) (Ok (timecode count rate))

-- ticks become the nearest frame, halves away from zero; any 64-bit signed number of ticks
abbrev pub ticks_frame : (ticks : ℤ) (rate : ℕ) → ℤ
ticks_frame ticks rate = nearest_z ticks (frame_ticks rate)

-- 6, then 5 of the resulting count
abbrev pub ticks_when : (ticks : ℤ) (rate : ℕ) → List Condition
ticks_when ticks rate = bad_rate rate ∷ bad_count (ticks_frame ticks rate) ∷ []

unfoldable pub ticks_at : (ticks : ℤ) (rate : ℕ) → Result Timecode Refusal
ticks_at ticks rate = unless Err (ticks_when ticks rate) (Ok (timecode (ticks_frame ticks rate) rate))

-- p/q seconds become the nearest frame, halves away from zero: p/q times the frames of a second, rounded once
abbrev pub seconds_frame : (p : ℤ) (q rate : ℕ) → ℤ
seconds_frame p q rate = nearest_z (p *ℤ pos (rate_row rate).numerator) (q * (rate_row rate).denominator)

-- 6, 5 of p and q, then 5 of the resulting count
abbrev pub seconds_when : (p : ℤ) (q rate : ℕ) → List Condition
seconds_when p q rate = bad_rate rate ∷ bad_seconds p q ∷ bad_count (seconds_frame p q rate) ∷ []

unfoldable pub seconds_at : (p : ℤ) (q rate : ℕ) → Result Timecode Refusal
seconds_at p q rate = unless Err (seconds_when p q rate) (Ok (timecode (seconds_frame p q rate) rate))
