-- `low_bytes::twos_of` meets its contract: by sign and magnitude.
-- Assumes nothing.
use Rattle.std.proofs.Common.{sym, ap, ◌∙◌, ◌-◌, ℕ, nat_abs}
use mir.Facts.{to_z-of_z}
use Rattle.numbers.specs.Sign.{is_neg}
use Rattle.low_bytes.specs.Laws.{twos-pos, twos-neg}
use Rattle.low_bytes.proofs.twos_of.Goals as goal

pub returns-then-below_zero : goal.returns-then-below_zero
returns-then-below_zero c =
    let z = to_z-of_z c.ranges.z in
    let m = c.magnitude-m.ensures ∙ ap nat_abs z in
    c.saturating_sub.ensures
    ∙ ap (λ (k : ℕ). 4294967296 - k) m
    ∙ sym (twos-neg 4 c.args.z (sym (c.below_zero.ensures ∙ ap is_neg z) ∙ c.if-below_zero.true))

pub returns-else-below_zero : goal.returns-else-below_zero
returns-else-below_zero c =
    let z = to_z-of_z c.ranges.z in
    c.magnitude-m.ensures ∙ ap nat_abs z ∙ sym (twos-pos 4 c.args.z (sym (c.below_zero.ensures ∙ ap is_neg z) ∙ c.if-below_zero.false))
