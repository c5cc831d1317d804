-- `asking::values::signed` meets its contract: a number is there where it is within 64 bits.
-- Assumes nothing.
use Rattle.std.specs.Prelude.{Err, Ok, OkIff, Result, Some, None}
use Rattle.std.specs.Result.{result_ok}
use Rattle.std.proofs.lemmas.Option.{none-some, same_Some}
use mathlib.Core.Path.{◌≡◌, sym, ◌∙◌}
use lib.IntN.{ℤ, pos}
use Rattle.asking.proofs.NumberLaws.{word-minus, word-too-low, word-plus, word-too-high}
use Rattle.asking.proofs.values.signed.Goals as goal

-- what a conversion's answer says, where only its number is kept
kept : {E F : Type 0} (r : Result ℤ E) (z x : ℤ) → OkIff r F x → Some z ≡ result_ok r → F × (z ≡ x)
kept (Ok y) z x h e = (h.0, same_Some z y e ∙ h.1)
kept (Err d) z x h e = absurd (none-some z (sym e))

dropped : {E F : Type 0} (r : Result ℤ E) (x : ℤ) → OkIff r F x → None ≡ result_ok r → F → ⊥
dropped (Ok y) x h e = absurd (none-some y e)
dropped (Err d) x h e = h

pub returns-in_err-number : goal.returns-in_err-number
returns-in_err-number c =
    c.from_residual.ensures ∙ rw c.if-minus.true (word-too-low c.args.m c.args.next c.in_err-number.ensures)

pub returns-in_ok-number : goal.returns-in_ok-number
returns-in_ok-number c =
    rw c.if-minus.true (word-minus c.args.m c.args.next c.in_ok-number.number c.in_ok-number.ensures.0 c.in_ok-number.ensures.1)

pub returns-in_err-number-2 : goal.returns-in_err-number-2
returns-in_err-number-2 c =
    c.from_residual-in_err-number-2.ensures
    ∙ rw c.if-minus.false (word-too-high c.args.m c.args.next (dropped c.try_from.result (pos c.args.m) c.try_from.ensures c.in_err-number-2.ensures.value))

pub returns-in_ok-number-2 : goal.returns-in_ok-number-2
returns-in_ok-number-2 c =
    let k = kept c.try_from.result c.in_ok-number-2.number (pos c.args.m) c.try_from.ensures c.in_ok-number-2.ensures.value in
    rw c.if-minus.false (word-plus c.args.m c.args.next c.in_ok-number-2.number k.0 k.1)
