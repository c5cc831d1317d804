-- A timecode is a count and a rate, a length or a position (BEHAVIOUR: Rates, Positions): how one is moved, and the answer that is one.
-- Assumes nothing.
use Rattle.answers.specs.declared.Refusal.{Refusal}
pub use Rattle.answers.specs.Refusals.{number_of}
use Rattle.std.specs.Prelude.{ℕ, ℤ, pos, Result, Ok, Err}
use Rattle.timecodes.specs.declared.Timecode.{Timecode}
use Rattle.timecodes.specs.declared.kinds.Kind.{Kind}
use Rattle.timecodes.specs.declared.kinds.Kind.TheVariants.{Length, Position}

-- a timecode is a count, a rate and a kind
abbrev pub timecode_as : Kind → (count : ℤ) (rate : ℕ) → Timecode
timecode_as kind count rate = record { count = count; rate = rate; kind = kind }

-- a length, and a position
abbrev pub timecode : (count : ℤ) (rate : ℕ) → Timecode
timecode count rate = timecode_as Length count rate

abbrev pub position : (count : ℤ) (rate : ℕ) → Timecode
position count rate = timecode_as Position count rate

-- the timecode with another count and rate: whatever else it has is kept
abbrev pub moved : Timecode → (count : ℤ) (rate : ℕ) → Timecode
moved tc count rate = timecode_as tc.kind count rate

-- the timecode with another count
abbrev pub recounted : Timecode → (count : ℤ) → Timecode
recounted tc count = moved tc count tc.rate

-- a count within its bounds as a new length at a rate, and as another timecode at another rate
abbrev pub placed : (rate : ℕ) → Result ℤ Refusal → Result Timecode Refusal
placed rate (Ok count) = Ok (timecode count rate)
placed rate (Err e) = Err e

abbrev pub moved_to : Timecode → (rate : ℕ) → Result ℤ Refusal → Result Timecode Refusal
moved_to tc rate (Ok count) = Ok (moved tc count rate)
moved_to tc rate (Err e) = Err e

-- the timecode of an answer (a refusal's numbers are 0); its number is that of any answer
abbrev pub timecode_of : Result Timecode Refusal → Timecode
timecode_of (Ok tc) = tc
timecode_of (Err e) = timecode (pos 0) 0
