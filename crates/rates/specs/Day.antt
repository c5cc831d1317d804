-- A rate's day (BEHAVIOUR: Positions): 24 hours of its timebase, less the dropped labels.
-- Assumes nothing.
use Rattle.std.specs.Prelude.{ℕ, ◌*◌, ◌-◌}
use Rattle.rates.specs.Rates.{rate_row, drop_frames}

-- 24 hours of the timebase, less D for each of the 1,440 minutes but the 144 that are multiples of 10
abbrev pub day_count : (timebase D : ℕ) → ℕ
day_count timebase D = 86_400 * timebase - D * (1_440 - 144)

-- the day of a rate, from its row; 0 of a number that is no rate
unfoldable pub day_frames : (rate : ℕ) → ℕ
day_frames rate = day_count (rate_row rate).timebase (drop_frames rate)
