-- When an operation admits its timecode, or its two timecodes (BEHAVIOUR: Refusals): the one place for 6, 15 and 5 of what is handed in.
-- Assumes nothing.
use Rattle.std.specs.Prelude.{ℕ, ◌≡◌, Bool, true, not, ◌&&◌, List, [], ◌∷◌, ltb, ℤ, nat_abs}
use Rattle.numbers.specs.Sign.{is_neg}
use Rattle.answers.specs.Order.{Condition, when}
use Rattle.answers.specs.Refusals.{is_count, out_of_bounds, wrong_kind}
use Rattle.rates.specs.Rates.{is_rate, bad_rate}
use Rattle.rates.specs.Day.{day_frames}
use Rattle.timecodes.specs.declared.Timecode.{Timecode}
use Rattle.timecodes.specs.declared.kinds.Kind.{Kind}
use Rattle.timecodes.specs.declared.kinds.Kind.TheVariants.{Length, Position}
use Rattle.timecodes.specs.declared.kinds.Joining.{Joining}
use Rattle.timecodes.specs.Kinds.{is_position, mixed_kinds, is_never, kind_in}

-- from 0 up to the rate's day, which is not included
unfoldable pub is_of_day : (rate : ℕ) (count : ℤ) → Bool
is_of_day rate count = not (is_neg count) && ltb (nat_abs count) (day_frames rate)

-- within its bounds, by kind: a length is from -400,000,000 to 400,000,000, a position of its rate's day
abbrev pub is_within : Kind → (rate : ℕ) (count : ℤ) → Bool
is_within Length rate count = is_count count
is_within Position rate count = is_of_day rate count

-- 5: a timecode whose count is outside its bounds
abbrev pub bad_input : Timecode → Condition
bad_input tc = when out_of_bounds (not (is_within tc.kind tc.rate tc.count))

-- a timecode of either kind: 6, no such rate; then 5, a count outside its bounds
abbrev pub admits : Timecode → List Condition
admits tc = bad_rate tc.rate ∷ bad_input tc ∷ []

-- a length only: 6; 15, it is a position; then 5
abbrev pub admits_length : Timecode → List Condition
admits_length tc = bad_rate tc.rate ∷ when wrong_kind (is_position tc.kind) ∷ bad_input tc ∷ []

-- both in one: with `lengths` the second, else the first
abbrev pub admits_only : (lengths : Bool) → Timecode → List Condition
admits_only lengths tc = bad_rate tc.rate ∷ when wrong_kind (lengths && is_position tc.kind) ∷ bad_input tc ∷ []

-- 15: two timecodes that are never mixed
abbrev pub not_mixed : Joining → (a b : Timecode) → Condition
not_mixed joining a b = when wrong_kind (is_never (mixed_kinds joining a.kind b.kind))

-- two timecodes: 6 of either; 15; then 5 of either
abbrev pub admits_both : Joining → (a b : Timecode) → List Condition
admits_both joining a b = bad_rate a.rate ∷ bad_rate b.rate ∷ not_mixed joining a b ∷ bad_input a ∷ bad_input b ∷ []

-- the kind of what they come to
abbrev pub joined_kind : Joining → (a b : Timecode) → Kind
joined_kind joining a b = kind_in (mixed_kinds joining a.kind b.kind)

-- a timecode within its bounds, as what takes both kinds admits it: the rate is one, and the count is within the bounds of its kind
pub record Valid (tc : Timecode) : Type 0 where
  pub rate : is_rate tc.rate ≡ true
  pub within : is_within tc.kind tc.rate tc.count ≡ true
