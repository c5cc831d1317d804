-- How many frames a day has (BEHAVIOUR: Positions): none at a number that is no rate, and else from 1 on.
-- Assumes nothing.
use Rattle.std.specs.Prelude.{ℕ, ◌*◌, ◌≤◌, ◌<◌, ◌≡◌, refl, Bool, true, false}
use Rattle.std.proofs.Common.{arith, ap}
use Rattle.std.proofs.lemmas.Bool.Decides.{nat_tests}
use Rattle.rates.specs.declared.Framerate.{Framerate}
use Rattle.rates.specs.Rates.{is_rate, rate_row, drop_frames}
use Rattle.rates.specs.Laws.{row_out, drop_le}
use Rattle.rates.proofs.Sound.{sound, drop-small}
use Rattle.rates.specs.Day.{day_count, day_frames}

-- a number that is no rate has none
pub day-none : (rate : ℕ) → is_rate rate ≡ false → day_frames rate ≡ 0
unfolding day_frames
day-none rate e = omega (arith, ap (λ (r : Framerate). r.timebase) (row_out rate e))

-- a day has frames, at any rate
pub day-pos : (rate : ℕ) → is_rate rate ≡ true → 0 < day_frames rate
unfolding day_frames
day-pos rate h = omega (arith, drop-small rate h)

-- and no more than 24 hours of timebase 60, at any number
pub day-le : (rate : ℕ) → day_frames rate ≤ 5_184_000
unfolding day_frames
day-le rate = go (is_rate rate) refl
  where
    go : (t : Bool) → is_rate rate ≡ t → day_count (rate_row rate).timebase (drop_frames rate) ≤ 5_184_000
    go true e = omega (arith, (sound rate e).timebase_most)
    go false e = omega (arith, day-none rate e)

-- no timebase is above 60, at any number
pub timebase_le : (rate : ℕ) → (rate_row rate).timebase ≤ 60
timebase_le rate = go (is_rate rate) refl
  where
    go : (t : Bool) → is_rate rate ≡ t → (rate_row rate).timebase ≤ 60
    go true e = (sound rate e).timebase_most
    go false e = omega (arith, ap (λ (r : Framerate). r.timebase) (row_out rate e))

-- what is no rate drops no labels
drop-none : (rate : ℕ) → is_rate rate ≡ false → drop_frames rate ≡ 0
unfolding is_rate drop_frames
drop-none rate e = grind (arith, nat_tests)

-- a day drops no more labels than it has, at any number
pub dropped_le : (rate : ℕ) → 1_296 * drop_frames rate ≤ 86_400 * (rate_row rate).timebase
dropped_le rate = go (is_rate rate) refl
  where
    go : (t : Bool) → is_rate rate ≡ t → 1_296 * drop_frames rate ≤ 86_400 * (rate_row rate).timebase
    go true e = omega (arith, (sound rate e).timebase_least, drop_le rate)
    go false e = omega (arith, drop-none rate e)
