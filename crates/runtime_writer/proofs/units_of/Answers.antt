-- `runtime_writer::units_of` meets its contract: the products fit, and the nearest is taken once.
-- Assumes nothing.
use Prim.Native.Nat.{◌*◌, ◌≤◌}
use native.Mathlib.Omega.{arith}
use mathlib.Core.Path.{ap, ap₂, ◌∙◌}
use Rattle.numbers.specs.Nearest.{nearest_n}
use Rattle.rates.proofs.Sound.{sound}
use Rattle.runtime_writer.specs.RuntimeText.{runtime_units}
use Rattle.runtime_writer.proofs.Powers.{frames-most, units-most}
use Rattle.runtime_writer.proofs.units_of.Goals as goal
use Rattle.runtime_writer.proofs.units_of.Goals.{After-row-row}

-- the denominator is one of a row
den : (c : After-row-row) → c.row-row.result.denominator ≤ 1001
den c =
    omega (arith, ap (λ r. r.denominator) c.row-row.ensures, (sound c.args.rate c.requires.rate).denominator_most)

pub overflow_mul-f : goal.overflow_mul-f
overflow_mul-f c =
    record { fits = omega (arith, frames-most c.args.f _ c.requires.count (den (goal.at.overflow_mul-f c).After-row-row)) }

pub overflow_mul-f-2 : goal.overflow_mul-f-2
overflow_mul-f-2 c =
    rw c.pow.ensures
    (record { fits = omega (arith, units-most c.args.f _ c.args.precision c.requires.count (den (goal.at.overflow_mul-f-2 c).After-row-row) c.requires.precision) })

pub returns : goal.returns
unfolding runtime_units
returns c =
    c.nearest.ensures ∙ ap₂ (λ r u. nearest_n (c.args.f * r.denominator * u) r.numerator) c.row-row.ensures c.pow.ensures
