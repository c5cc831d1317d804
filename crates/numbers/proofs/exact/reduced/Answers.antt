-- `numbers::exact::reduced` meets its contract: nothing is left, or n less what is left of the magnitude, or just that.
-- Assumes nothing.
use mathlib.Core.Path.{sym, ap, ◌∙◌}
use mathlib.Core.Bool.{Bool}
use Prim.Native.Nat.{◌%◌, ◌<◌}
use native.Mathlib.Omega.{arith}
use Rattle.numbers.specs.Sign.{signed}
use Rattle.numbers.specs.Modulo.{reduced_z}
use Rattle.numbers.specs.ModuloLaws.{reduced-plain, reduced-below, reduced-whole}
use Rattle.numbers.proofs.exact.reduced.Goals as goal
use Rattle.numbers.proofs.exact.reduced.Goals.{Else-r-eq0}

pub returns-then-r-eq0 : goal.returns-then-r-eq0
returns-then-r-eq0 c =
    sym (reduced-whole c.args.minus c.args.m c.args.n c.requires c.if-r-eq0.true)

-- something is left
some : (c : Else-r-eq0) → 0 < c.args.m % c.args.n
some c =
    omega (arith, c.if-r-eq0.false)

pub returns-then-minus : goal.returns-then-minus
returns-then-minus c =
    sym
    (ap (λ (t : Bool). reduced_z (signed t c.args.m) c.args.n) c.if-minus.true
    ∙ reduced-below c.args.m c.args.n c.requires (some (goal.at.returns-then-minus c).Else-r-eq0))

pub returns-else-minus : goal.returns-else-minus
returns-else-minus c =
    sym (ap (λ (t : Bool). reduced_z (signed t c.args.m) c.args.n) c.if-minus.false ∙ reduced-plain c.args.m c.args.n c.requires)
