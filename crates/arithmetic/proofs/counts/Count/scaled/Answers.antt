-- `arithmetic::counts::Count::scaled` meets its contract: a count within its bounds times a denominator fits.
-- Assumes nothing.
use mir.Syntax.{w64}
use Prim.Native.Nat.{◌*◌}
use mathlib.Core.Path.{◌∙◌, ap₂}
use native.Mathlib.Nat.{mul-le-mul}
use native.Mathlib.Omega.{arith}
use lib.IntN.{ℤ, pos, nat_abs, ◌*ℤ◌}
use mir.Facts.{to_z-of_z}
use Rattle.numbers.specs.Total.{fitted, fitted-in}
use Rattle.arithmetic.proofs.Admitting.{count-back}
use Rattle.arithmetic.proofs.counts.Count.scaled.Goals as goal

pub returns : goal.returns
returns c =
    to_z-of_z {w = w64} (record { sfits = c.product.type_inv })
    ∙ c.product.ensures
    ∙ ap₂ (λ (x y : ℤ). fitted (nat_abs x * nat_abs y) (x *ℤ y)) (count-back c.args.self.n c.args.self.within)
    (to_z-of_z {w = w64} (record { sfits = c.with_sign.type_inv }) ∙ c.with_sign.ensures ∙ fitted-in c.args.q (pos c.args.q) (omega (arith, c.requires)))
    ∙ fitted-in _ (c.args.self.n *ℤ pos c.args.q) (omega (arith, mul-le-mul c.args.self.within c.requires))
