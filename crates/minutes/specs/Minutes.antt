-- The minute table (BEHAVIOUR: The minute table): the first frame numbers of a 29.97 drop day's minutes.
-- Assumes nothing.
use Rattle.answers.specs.declared.Refusal.{Refusal}
use Rattle.std.specs.Prelude.{cond, not, [], ◌∷◌, ℕ, zero, suc, ◌+◌, ◌%◌, eqb, leb, pos, Result, Ok, Err, ℤ}
use Rattle.answers.specs.Order.{Condition, when, unless}
use Rattle.answers.specs.Refusals.{out_of_bounds}

-- 1800 more after a minute that is a multiple of 10, else 1798 more
abbrev pub step_after : (minute : ℕ) → ℕ
step_after minute = cond (eqb (minute % 10) 0) 1800 1798

-- entry 0 is 0; each next is a step more
unfoldable pub minute_start : (minute : ℕ) → ℕ
minute_start zero = 0
minute_start (suc minute) = minute_start minute + step_after minute

-- 5: a minute outside 0 to 1439
abbrev pub bad_minute : (minute : ℕ) → Condition
bad_minute minute = when out_of_bounds (not (leb minute 1439))

-- the first frame number of a minute of the table
unfoldable pub minute_at : (minute : ℕ) → Result ℤ Refusal
minute_at minute = unless Err (bad_minute minute ∷ []) (Ok (pos (minute_start minute)))

-- the frames of a minute's first allowed label: 0 where the minute is a multiple of 10, else 2
abbrev pub first_frame : (minute : ℕ) → ℕ
first_frame minute = cond (eqb (minute % 10) 0) 0 2
