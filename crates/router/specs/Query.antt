-- A query (BEHAVIOUR: Router): the label of a position and a length, as a half-open range of frames.
-- Assumes nothing.
use Rattle.router.specs.Found.{frames}
use Rattle.router.specs.declared.query.Frames.{Frames}
use Rattle.answers.specs.declared.Refusal.{Refusal}
use Rattle.std.specs.Prelude.{ℕ, ◌+◌, ◌≤◌, ◌<◌, List, [], ◌∷◌, Bool, not, ◌&&◌, leb, ltb, ℤ, nat_abs, Ok, Err, Result}
use Rattle.numbers.specs.Sign.{is_neg}
use Rattle.answers.specs.Order.{Condition, when, unless}
use Rattle.answers.specs.Refusals.{out_of_bounds, past_day, most_count}
use Rattle.rates.specs.Day.{day_frames}
use Rattle.timecodes.specs.declared.kinds.Kind.TheVariants.{Position}
use Rattle.reading.specs.declared.Read.{Read}
use Rattle.reading.specs.declared.Read.TheVariants as read
use Rattle.reading.specs.For.{label_for}

-- a frame lies in a range: from its start up to its end, which is not in it
pub record InRange (start end frame : ℕ) : Type 0 where
  pub from : start ≤ frame
  pub before : frame < end

-- a length is from 0 to 400,000,000
abbrev pub is_length : ℤ → Bool
is_length z = not (is_neg z) && leb (nat_abs z) most_count

-- 5: a length outside its bounds; 17: start plus length beyond the day
abbrev pub range_when : (rate : ℕ) (length : ℤ) (start : ℕ) → List Condition
range_when rate length start =
    when out_of_bounds (not (is_length length)) ∷ when past_day (ltb (day_frames rate) (start + nat_abs length)) ∷ []

-- the range from a position's count on
unfoldable pub range_at : (rate : ℕ) (length count : ℤ) → Result Frames Refusal
range_at rate length count =
    unless Err (range_when rate length (nat_abs count)) (frames (nat_abs count) (nat_abs count + nat_abs length))

-- behind what the label is refused (no footage is read where only a label may stand)
abbrev pub range_from : (rate : ℕ) (length : ℤ) → Result Read Refusal → Result Frames Refusal
range_from rate length (Ok (read.Label tc)) = range_at rate length tc.count
range_from rate length (Ok (read.Footage tc format)) = range_at rate length tc.count
range_from rate length (Err e) = Err e

unfoldable pub range_of : (rate : ℕ) (length : ℤ) (text : List ℕ) → Result Frames Refusal
range_of rate length text = range_from rate length (label_for Position text rate)
