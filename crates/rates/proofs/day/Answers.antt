-- `rates::day` meets its contract: nothing wraps, since the labels that a day drops are fewer than it has, and 1,296 is 1,440 less 144.
-- Assumes nothing.
use mathlib.Core.Path.{◌≡◌, ap}
use native.Mathlib.Omega.{arith}
use Rattle.rates.specs.declared.Framerate.{Framerate}
use Rattle.rates.specs.Rates.{rate_row}
use Rattle.rates.specs.Laws.{drop_le}
use Rattle.rates.specs.Day.{day_frames}
use Rattle.rates.proofs.Days.{timebase_le, dropped_le}
use Rattle.rates.proofs.day.Goals as goal
use Rattle.rates.proofs.day.Goals.{After-row}

timebase-is : (c : After-row) → c.row.result.timebase ≡ (rate_row c.args.no).timebase
timebase-is c =
    ap (λ (r : Framerate). r.timebase) c.row.ensures

pub overflow_mul-result : goal.overflow_mul-result
overflow_mul-result c =
    omega (arith, timebase-is (goal.at.overflow_mul-result c).After-row, timebase_le c.args.no)

pub overflow_mul-result-2 : goal.overflow_mul-result-2
overflow_mul-result-2 c =
    omega (arith, c.drop_frames_per_minute.ensures, drop_le c.args.no)

pub overflow_sub-result : goal.overflow_sub-result
overflow_sub-result c =
    omega (arith, timebase-is (goal.at.overflow_sub-result c).After-row, c.drop_frames_per_minute.ensures, dropped_le c.args.no)

pub returns : goal.returns
unfolding day_frames
returns c =
    omega (arith, timebase-is (goal.at.returns c).After-row, c.drop_frames_per_minute.ensures)
