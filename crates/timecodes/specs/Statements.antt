-- What holds of timecodes beyond one call (BEHAVIOUR: Positions): the number of the day, and the bounds of each kind. Proofs: proofs/Statements.antt.
-- Assumes nothing.
use Rattle.answers.specs.declared.Refusal.{Refusal}
use Rattle.std.specs.Prelude.{ℕ, ◌<◌, ◌≡◌, ◌↔◌, true, false, ℤ, pos, Result, Ok}
use Rattle.answers.specs.Order.{judged}
use Rattle.answers.specs.Refusals.{is_count, held}
use Rattle.rates.specs.Rates.{is_rate}
use Rattle.rates.specs.Day.{day_frames}
use Rattle.timecodes.specs.declared.Timecode.{Timecode}
use Rattle.timecodes.specs.declared.kinds.Kind.{Kind}
use Rattle.timecodes.specs.declared.kinds.Kind.TheVariants.{Length, Position}
use Rattle.timecodes.specs.Kinds.{kind_from}
use Rattle.timecodes.specs.Timecode.{timecode, position, placed}
use Rattle.timecodes.specs.Made.{OfDay, in_day, settled}
use Rattle.timecodes.specs.Admitted.{admits, Valid}

-- what a count is reduced to is the number of the day that differs from it by whole days, negative counts too
abbrev pub DayIs : Type 0
DayIs = (rate : ℕ) (count : ℤ) → is_rate rate ≡ true → OfDay rate count (in_day rate count)

-- and there is one such number
abbrev pub DayOne : Type 0
DayOne = (rate : ℕ) (count z : ℤ) → is_rate rate ≡ true → OfDay rate count z → z ≡ in_day rate count

-- a number from 0 up to `whole`, which is not included
pub record CountUnder (whole : ℕ) (z : ℤ) : Type 0 where
  pub number : ℕ
  pub is : z ≡ pos number
  pub under : number < whole

-- what takes both kinds admits a position at a rate exactly when its count is a number from 0 up to the rate's day
abbrev pub PositionWithin : Type 0
PositionWithin = (rate : ℕ) (count : ℤ) → is_rate rate ≡ true → (judged (admits (position count rate)) ≡ (Ok tt)) ↔ CountUnder (day_frames rate) count

-- and a length exactly when its count is from -400,000,000 to 400,000,000
abbrev pub LengthWithin : Type 0
LengthWithin = (rate : ℕ) (count : ℤ) → is_rate rate ≡ true → (judged (admits (timecode count rate)) ≡ (Ok tt)) ↔ (is_count count ≡ true)

-- what a length is made of is made a position exactly where it is within a count's bounds: first held to them, then the number of the day
abbrev pub SettledPosition : Type 0
SettledPosition =
    (rate : ℕ) (count z : ℤ) → is_rate rate ≡ true
    → (settled Position (placed rate (held count)) ≡ Ok (position z rate)) ↔ ((is_count count ≡ true) × OfDay rate count z)

-- made a length it stays as it is
abbrev pub SettledLength : Type 0
SettledLength = (rate : ℕ) (counted : Result ℤ Refusal) → settled Length (placed rate counted) ≡ placed rate counted

-- and what is made of a length that is within its bounds is of the kind that was asked for, at its rate, and within its bounds
abbrev pub SettledValid : Type 0
SettledValid =
    (kind : Kind) (tc end : Timecode) → Valid tc → tc.kind ≡ Length → settled kind (Ok tc) ≡ Ok end
    → Valid end × (end.kind ≡ kind) × (end.rate ≡ tc.rate)

-- a timecode is a position where that is said, else a length
abbrev pub KindChosen : Type 0
KindChosen = (kind_from true ≡ Position) × (kind_from false ≡ Length)
