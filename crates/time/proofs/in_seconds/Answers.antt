-- `time::in_seconds` meets its contract: the magnitude over the ticks of a second in lowest terms, with the ticks' sign.
-- Assumes nothing.
use mir.Syntax.{w64}
use Prim.Native.Nat.{ℕ}
use mathlib.Core.Path.{sym, ◌∙◌, ap, subst}
use mathlib.Core.Bool.{Bool}
use native.Mathlib.Omega.{arith}
use lib.IntN.{ℤ, pos, nat_abs}
use lib.Signed.{lt_z}
use mir.Facts.{to_z-of_z}
use Rattle.numbers.specs.Sign.{is_neg, signed}
use Rattle.numbers.specs.Lowest.{Lowest}
use Rattle.numbers.specs.LowestLaws.{lowest-le}
use Rattle.numbers.specs.Total.{fitted, fitted-in}
use Rattle.rates.specs.Rates.{second_ticks}
use Rattle.time.specs.Seconds.{InSeconds}
use Rattle.time.proofs.Steps.{below_zero-is}
use Rattle.time.specs.SecondsLaws.{in_seconds-signed}
use Rattle.time.proofs.in_seconds.Goals as goal
use Rattle.time.proofs.in_seconds.Goals.{After-lowest-f}

-- the fraction that the call gave is that of the ticks' magnitude
lowest-is : (c : After-lowest-f) → Lowest (nat_abs c.args.ticks) second_ticks c.lowest-f.result.num c.lowest-f.result.den
lowest-is c =
    subst (λ (m : ℕ). Lowest m second_ticks c.lowest-f.result.num c.lowest-f.result.den)
    (c.unsigned_abs.ensures.value ∙ ap nat_abs (to_z-of_z c.ranges.ticks)) (c.lowest-f.ensures.0 (omega arith))

pub returns : goal.returns
returns c =
    let same = ap (λ (z : ℤ). lt_z z (pos 0)) (to_z-of_z c.ranges.ticks) ∙ below_zero-is c.args.ticks in
    let small = lowest-le (nat_abs c.args.ticks) second_ticks c.lowest-f.result.num c.lowest-f.result.den (omega arith) (lowest-is (goal.at.returns c).After-lowest-f) in
    subst (λ (p : ℤ). InSeconds c.args.ticks p c.lowest-f.result.den)
    (sym
    (to_z-of_z {w = w64} (record { sfits = c.with_sign.type_inv })
    ∙ c.with_sign.ensures
    ∙ ap (λ (m : Bool). fitted c.lowest-f.result.num (signed m c.lowest-f.result.num)) same
    ∙ fitted-in c.lowest-f.result.num (signed (is_neg c.args.ticks) c.lowest-f.result.num) (omega (arith, c.requires))))
    (in_seconds-signed c.args.ticks c.lowest-f.result.num c.lowest-f.result.den (lowest-is (goal.at.returns c).After-lowest-f))
