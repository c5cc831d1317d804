-- `timecodes::instant_of` meets its contract: the product of the count and the ticks of its row.
-- Assumes nothing.
use Prim.Native.Nat.{ℕ, ◌*◌}
use mathlib.Core.Path.{◌≡◌, ◌∙◌, ap, ap₂}
use native.Mathlib.Omega.{arith}
use borrow.Author.Rules.{rules}
use lib.IntN.{ℤ, pos, nat_abs, ◌*ℤ◌}
use mir.Syntax.{w64}
use mir.Val.{to_z, of_z}
use mir.Facts.{to_z-of_z}
use Rattle.numbers.specs.Total.{fitted, fitted-in}
use Rattle.rates.specs.declared.Framerate.{Framerate}
use Rattle.rates.specs.Rates.{frame_ticks}
use Rattle.rates.proofs.Sound.{frame_ticks-le}
use Rattle.timecodes.specs.Instant.{instant, instant_in}
use Rattle.timecodes.proofs.instant_of.Goals as goal
use Rattle.timecodes.proofs.instant_of.Goals.{After-with_sign}

-- what the two operands of the product are, as the machine reads them
count_is : (c : After-with_sign)
    → to_z w64 (of_z w64 c.args.tc.count) ≡ c.args.tc.count
count_is c =
    search rules

ticks-is : (c : After-with_sign)
    → to_z w64 (of_z w64 c.with_sign.result) ≡ pos (frame_ticks c.args.tc.rate)
ticks-is c =
    let row : c.row-row.result.ticks ≡ frame_ticks c.args.tc.rate = ap (λ (r : Framerate). r.ticks) c.row-row.ensures in
    to_z-of_z {w = w64} (record { sfits = c.with_sign.type_inv })
    ∙ c.with_sign.ensures
    ∙ ap (λ (t : ℕ). fitted t (pos t)) row
    ∙ fitted-in (frame_ticks c.args.tc.rate) (pos (frame_ticks c.args.tc.rate)) (omega (arith, frame_ticks-le c.args.tc.rate))

pub returns : goal.returns
unfolding instant instant_in
returns c =
    to_z-of_z {w = w64} (record { sfits = c.product.type_inv })
    ∙ c.product.ensures
    ∙ ap₂ (λ (x y : ℤ). fitted (nat_abs x * nat_abs y) (x *ℤ y)) (count_is (goal.at.returns c).After-with_sign) (ticks-is (goal.at.returns c).After-with_sign)
