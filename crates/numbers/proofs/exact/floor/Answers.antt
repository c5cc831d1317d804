-- `numbers::exact::floor` meets its contract: with two signs the magnitudes' quotient is rounded up and negated.
-- Assumes nothing.
use Rattle.std.proofs.Common.{ap, ap₂, ◌∙◌, sym, ℕ, pos, neg_ℤ, w64}
use Rattle.std.specs.Bool.{beq}
use Rattle.std.specs.Int.{div_ceil}
use mir.Facts.{to_z-of_z}
use Rattle.numbers.specs.Sign.{is_neg}
use Rattle.numbers.specs.FloorLaws.{floor-unlike}
use Rattle.numbers.proofs.exact.floor.Goals as goal

pub returns-else-below_zero : goal.returns-else-below_zero
returns-else-below_zero c =
    let m = rw (to_z-of_z c.ranges.x) at c.magnitude-m.ensures in
    let n = rw (to_z-of_z c.ranges.d) at c.magnitude-n.ensures in
    to_z-of_z {w = w64} (record { sfits = c.with_sign-else-below_zero.type_inv })
    ∙ c.with_sign-else-below_zero.ensures
    ∙ ap (λ (k : ℕ). neg_ℤ (pos k)) (c.div_ceil.ensures ∙ ap₂ div_ceil m n)
    ∙ floor-unlike c.args.x c.args.d
    (ap₂ beq (sym (c.below_zero.ensures ∙ ap is_neg (to_z-of_z c.ranges.x))) (sym (c.below_zero-2.ensures ∙ ap is_neg (to_z-of_z c.ranges.d))) ∙ c.if-below_zero.false)
    c.requires.1
