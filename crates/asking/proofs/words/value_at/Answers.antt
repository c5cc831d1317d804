-- `asking::words::value_at` meets its contract: the mark tells where the number begins, and `-` alone that there is none.
-- Assumes nothing.
use Prim.Native.Nat.{◌+◌}
use mathlib.Core.Path.{sym, ap, ◌∙◌}
use native.Mathlib.Omega.{arith}
use lib.Seq.{drop-drop}
use Rattle.asking.specs.Numbers.{signed_at}
use Rattle.asking.proofs.Taken.{unstated-within, position_within, value-unstated, value-marked, value-plain}
use Rattle.asking.proofs.words.value_at.Goals as goal

pub overflow_add-result : goal.overflow_add-result
overflow_add-result c =
    omega (arith, unstated-within c.args.kind c.args.line.now c.args.at (sym c.is_unstated.ensures ∙ c.if-is_unstated.true))

pub returns-then-is_unstated : goal.returns-then-is_unstated
returns-then-is_unstated c =
    sym (value-unstated _ _ _ (sym c.is_unstated.ensures ∙ c.if-is_unstated.true))

pub overflow_add-at : goal.overflow_add-at
overflow_add-at c =
    omega (arith, position_within c.args.kind c.args.line.now c.args.at (sym c.is_position.ensures ∙ c.if-is_position.true))

pub returns-then-is_position : goal.returns-then-is_position
returns-then-is_position c =
    c.signed_at.ensures
    ∙ ap (signed_at (c.args.at + 2)) (sym (drop-drop 2 c.args.at c.args.line.now))
    ∙ sym
    (value-marked _ _ _ (sym c.is_unstated.ensures ∙ c.if-is_unstated.false) (sym c.is_position.ensures ∙ c.if-is_position.true))

pub returns : goal.returns
returns c =
    c.number.ensures
    ∙ sym
    (value-plain _ _ _ (sym c.is_unstated.ensures ∙ c.if-is_unstated.false) (sym c.is_position.ensures ∙ c.if-is_position.false))
