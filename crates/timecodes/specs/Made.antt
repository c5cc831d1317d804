-- Making a position (BEHAVIOUR: Positions): what is made as a length, rounded and held to its bounds, is then reduced by whole days.
-- Assumes nothing.
use Rattle.answers.specs.declared.Refusal.{Refusal}
use Rattle.std.specs.Prelude.{ℕ, ◌≡◌, ℤ, pos, Result, Ok, Err}
use Rattle.numbers.specs.Modulo.{Reduced, reduced_z}
use Rattle.rates.specs.Day.{day_frames}
use Rattle.timecodes.specs.declared.Timecode.{Timecode}
use Rattle.timecodes.specs.declared.kinds.Kind.{Kind}
use Rattle.timecodes.specs.declared.kinds.Kind.TheVariants.{Length, Position}
use Rattle.timecodes.specs.Timecode.{timecode, position}

-- z is the number of the rate's day that differs from the count by whole days: it lies from 0 up to the day, which is not included
pub record OfDay (rate : ℕ) (count z : ℤ) : Type 0 where
  pub number : ℕ
  pub is : z ≡ pos number
  pub reduced : Reduced count (day_frames rate) number

-- that number: DayIs and DayOne, of specs/Statements.antt, say that it is
unfoldable pub in_day : (rate : ℕ) (count : ℤ) → ℤ
in_day rate count = pos (reduced_z count (day_frames rate))

-- a count made a timecode: a length is that count, a position is reduced by whole days
abbrev pub made : Kind → (count : ℤ) (rate : ℕ) → Timecode
made Length count rate = timecode count rate
made Position count rate = position (in_day rate count) rate

-- what was made as a length, made a timecode of a kind; what is refused stays so
abbrev pub settled : Kind → Result Timecode Refusal → Result Timecode Refusal
settled kind (Ok tc) = Ok (made kind tc.count tc.rate)
settled kind (Err e) = Err e
