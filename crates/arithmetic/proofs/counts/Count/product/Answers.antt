-- `arithmetic::counts::Count::product` meets its contract: within their bounds count and factor have a product that fits.
-- Assumes nothing.
use mir.Syntax.{w64}
use Rattle.std.proofs.lemmas.Bool.{not_from_false, not_from_true}
use Prim.Native.Nat.{◌*◌}
use mathlib.Core.Path.{◌≡◌, ◌∙◌, ap, ap₂}
use native.Mathlib.Nat.{mul-le-mul}
use native.Mathlib.Omega.{arith}
use lib.IntN.{ℤ, nat_abs, ◌*ℤ◌}
use mir.Facts.{to_z-of_z}
use Rattle.numbers.specs.Nearest.{nearest_z}
use Rattle.numbers.specs.Total.{fitted, fitted-in}
use Rattle.numbers.proofs.Tests.{fails, passes}
use Rattle.answers.specs.Refusals.{held}
use Rattle.time.specs.Bounds.{most_factor, is_fraction}
use Rattle.time.specs.BoundsLaws.{is_fraction-told}
use Rattle.arithmetic.specs.Product.{product_counted}
use Rattle.arithmetic.proofs.Admitting.{count-back}
use Rattle.arithmetic.proofs.counts.Count.product.Goals as goal
use Rattle.arithmetic.proofs.counts.Count.product.Goals.{After-is_fraction}

-- what the test told is of p itself
told : (c : After-is_fraction) → c.is_fraction.result ≡ is_fraction most_factor c.args.p c.args.q
told c =
    c.is_fraction.ensures ∙ ap (λ (z : ℤ). is_fraction most_factor z c.args.q) (to_z-of_z c.ranges.p)

pub returns-then-not-is_fraction : goal.returns-then-not-is_fraction
unfolding product_counted
returns-then-not-is_fraction c =
    simp (fails (told (goal.at.returns-then-not-is_fraction c).After-is_fraction) (not_from_false _ c.if-not-is_fraction.true), c.into.ensures)

pub returns : goal.returns
unfolding product_counted held
returns c =
    let factor = passes (told (goal.at.returns c).After-is_fraction) (not_from_true _ c.if-not-is_fraction.false) in
    simp factor
    (c.nearest_count.ensures
    ∙ ap (λ (z : ℤ). held (nearest_z z c.args.q))
    (to_z-of_z {w = w64} (record { sfits = c.product.type_inv })
    ∙ c.product.ensures
    ∙ ap₂ (λ (x y : ℤ). fitted (nat_abs x * nat_abs y) (x *ℤ y)) (count-back c.args.self.n c.args.self.within) (to_z-of_z c.ranges.p)
    ∙ fitted-in _ (c.args.self.n *ℤ c.args.p) (omega (arith, mul-le-mul c.args.self.within (is_fraction-told most_factor c.args.p c.args.q factor).top))))
