-- A sum or difference of two timecodes (BEHAVIOUR: Arithmetic, Positions): the exact instant, rounded at the left one's rate, made of their kind.
-- Assumes nothing.
use Rattle.answers.specs.declared.Refusal.{Refusal}
use Rattle.std.specs.Prelude.{List, [], ◌∷◌, ◌++◌, Bool, true, false, ℤ, ◌+ℤ◌, ◌-ℤ◌, Result, Ok, Err}
use Rattle.numbers.specs.Nearest.{nearest_z}
use Rattle.answers.specs.Order.{Condition, unless}
use Rattle.answers.specs.Refusals.{bad_count}
use Rattle.rates.specs.Rates.{frame_ticks}
use Rattle.timecodes.specs.declared.Timecode.{Timecode}
use Rattle.timecodes.specs.declared.kinds.Joining.{Joining}
use Rattle.timecodes.specs.declared.kinds.Joining.TheVariants.{Sum, Difference}
use Rattle.timecodes.specs.Made.{made}
use Rattle.timecodes.specs.Admitted.{admits_both, joined_kind}
use Rattle.timecodes.specs.Instant.{instant}

-- the sum, or with minus the difference
abbrev pub sum_or : (minus : Bool) → ℤ → ℤ → ℤ
sum_or false = ◌+ℤ◌
sum_or true = ◌-ℤ◌

abbrev pub joining_of : (minus : Bool) → Joining
joining_of false = Sum
joining_of true = Difference

-- that of the instants, at the nearest frame of the left one's rate, halves away from zero
abbrev pub joined_frame : (minus : Bool) → Timecode → Timecode → ℤ
joined_frame minus a b = nearest_z (sum_or minus (instant a) (instant b)) (frame_ticks a.rate)

-- 6, 15, 5, then 5 of the resulting count
abbrev pub joined_when : (minus : Bool) → Timecode → Timecode → List Condition
joined_when minus a b = admits_both (joining_of minus) a b ++ (bad_count (joined_frame minus a b) ∷ [])

-- rounded and held to its bounds first; where the two come to a position, that is then reduced by whole days
unfoldable pub joined : (minus : Bool) → Timecode → Timecode → Result Timecode Refusal
joined minus a b =
    unless Err (joined_when minus a b) (Ok (made (joined_kind (joining_of minus) a b) (joined_frame minus a b) a.rate))

-- the sum
abbrev pub add_of : Timecode → Timecode → Result Timecode Refusal
add_of = joined false

-- the difference
abbrev pub sub_of : Timecode → Timecode → Result Timecode Refusal
sub_of = joined true
