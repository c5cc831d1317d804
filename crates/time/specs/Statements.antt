-- What holds of time beyond one call (BEHAVIOUR: Time, Positions): the nearest frame, and how ticks and seconds lead back to it. Proofs: proofs/.
-- Assumes nothing.
use Rattle.std.specs.Prelude.{ℕ, ◌*◌, ◌≡◌, ℤ, pos, ◌*ℤ◌, Ok}
use Rattle.numbers.specs.Nearest.{Nearest}
use Rattle.rates.specs.Rates.{rate_row, frame_ticks, second_ticks}
use Rattle.timecodes.specs.declared.Timecode.{Timecode}
use Rattle.timecodes.specs.Timecode.{timecode}
use Rattle.timecodes.specs.Made.{settled}
use Rattle.time.specs.Frames.{ticks_at, seconds_at}
use Rattle.time.specs.Ticks.{ticks_of}
use Rattle.time.specs.Seconds.{fraction, SecondsOf}

-- ticks become the nearest frame at the rate, halves away from zero
abbrev pub TicksNearest : Type 0
TicksNearest =
    (t : ℤ) (rate : ℕ) (tc : Timecode) → ticks_at t rate ≡ Ok tc → (tc.rate ≡ rate) × Nearest t (frame_ticks rate) tc.count

-- so do p/q seconds, of which a frame is denominator/numerator
abbrev pub SecondsNearest : Type 0
SecondsNearest =
    (p : ℤ) (q rate : ℕ) (tc : Timecode) → seconds_at p q rate ≡ Ok tc
    → (tc.rate ≡ rate) × Nearest (p *ℤ pos (rate_row rate).numerator) (q * (rate_row rate).denominator) tc.count

-- the ticks of a timecode give its count back, as a length
abbrev pub TicksBack : Type 0
TicksBack = (tc : Timecode) (t : ℤ) → ticks_of tc ≡ Ok t → ticks_at t tc.rate ≡ Ok (timecode tc.count tc.rate)

-- so do its seconds, which are within the bounds of seconds
abbrev pub SecondsBack : Type 0
SecondsBack =
    (tc : Timecode) (p : ℤ) (q : ℕ) → SecondsOf tc (Ok (fraction p q)) → seconds_at p q tc.rate ≡ Ok (timecode tc.count tc.rate)

-- the ticks of a timecode, made a timecode of its own kind, are the timecode itself
abbrev pub TicksBackAs : Type 0
TicksBackAs = (tc : Timecode) (t : ℤ) → ticks_of tc ≡ Ok t → settled tc.kind (ticks_at t tc.rate) ≡ Ok tc

-- the seconds of a timecode, made a timecode of its own kind, are the timecode itself
abbrev pub SecondsBackAs : Type 0
SecondsBackAs = (tc : Timecode) (p : ℤ) (q : ℕ) → SecondsOf tc (Ok (fraction p q)) → settled tc.kind (seconds_at p q tc.rate) ≡ Ok tc

-- seconds times 254016000000 are the ticks
abbrev pub SecondsInstant : Type 0
SecondsInstant =
    (tc : Timecode) (t p : ℤ) (q : ℕ)
    → ticks_of tc ≡ Ok t → SecondsOf tc (Ok (fraction p q)) → p *ℤ pos second_ticks ≡ t *ℤ pos q
