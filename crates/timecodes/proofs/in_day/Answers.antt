-- `timecodes::in_day` meets its contract: the reduced count is below a day's frames, so that it fits.
-- Assumes nothing.
use mir.Syntax.{w64}
use mathlib.Core.Path.{◌≡◌, ◌∙◌, ap, ap₂}
use Prim.Native.Nat.{ℕ}
use native.Mathlib.Omega.{arith}
use lib.IntN.{pos}
use mir.Facts.{to_z-of_z}
use Rattle.numbers.specs.Modulo.{reduced_z}
use Rattle.numbers.specs.ModuloLaws.{reduced-le}
use Rattle.numbers.specs.Total.{fitted, fitted-in}
use Rattle.rates.specs.Day.{day_frames}
use Rattle.rates.proofs.Days.{day-le}
use Rattle.timecodes.specs.Made.{in_day}
use Rattle.timecodes.proofs.in_day.Goals as goal
use Rattle.timecodes.proofs.in_day.Goals.{After-reduced}

reduced_is : (c : After-reduced) → c.reduced.result ≡ reduced_z c.args.count (day_frames c.args.rate)
reduced_is c =
    c.reduced.ensures ∙ ap₂ reduced_z (to_z-of_z c.ranges.count) c.day.ensures

pub returns : goal.returns
unfolding in_day
returns c =
    let m = reduced_z c.args.count (day_frames c.args.rate) in
    to_z-of_z {w = w64} (record { sfits = c.with_sign.type_inv })
    ∙ c.with_sign.ensures
    ∙ ap (λ (k : ℕ). fitted k (pos k)) (reduced_is (goal.at.returns c).After-reduced)
    ∙ fitted-in m (pos m) (omega (arith, reduced-le c.args.count (day_frames c.args.rate), day-le c.args.rate))
