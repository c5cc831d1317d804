-- `numbers::exact::gcd` meets its contract: whatever is the greatest common divisor of the pair at hand is that of a and b.
-- Assumes nothing.
use mathlib.Core.Path.{◌≡◌, sym, subst}
use Prim.Native.Nat.{ℕ}
use native.Mathlib.Nat.{mod-lt}
use native.Mathlib.Omega.{arith}
use borrow.Author.Rules.{rules}
use Rattle.numbers.specs.Lowest.{Gcd}
use Rattle.numbers.specs.LowestLaws.{gcd-zero, gcd-step}
use Rattle.numbers.proofs.exact.gcd.Goals as goal

pub loop-y-init : goal.loop-y-init
loop-y-init c =
    λ g h. h

pub loop-y-smaller : goal.loop-y-smaller
loop-y-smaller c =
    mod-lt c.loop-y.x (search rules)

pub loop-y-preserved : goal.loop-y-preserved
loop-y-preserved c =
    λ g h. c.loop-y.invariant g (gcd-step c.loop-y.x c.loop-y.y g h)

pub returns : goal.returns
returns c =
    let done : c.loop-y.y ≡ 0 = omega (arith, c.loop-y-test.false) in
    c.loop-y.invariant c.loop-y.x (subst (λ (y : ℕ). Gcd c.loop-y.x y c.loop-y.x) (sym done) (gcd-zero c.loop-y.x))
