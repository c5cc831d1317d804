-- `asking::sharded::range_at` meets its contract: a number, `-`, and a number right behind it.
-- Assumes nothing.
use mathlib.Core.Path.{◌≡◌, sym, ◌∙◌}
use native.Mathlib.Omega.{arith}
use borrow.Author.Rules.{rules}
use mir.Syntax.{w64}
use mir.Val.{to_z, of_z}
use Rattle.asking.proofs.Ranges.{range-no-first, range-apart, range-no-end, range-some}
use Rattle.asking.proofs.sharded.range_at.Goals as goal

pub returns-in_err-a : goal.returns-in_err-a
returns-in_err-a c = c.from_residual.ensures ∙ range-no-first _ _ (sym c.signed_at.ensures ∙ c.in_err-a.was)

pub returns-then-not-stands : goal.returns-then-not-stands
returns-then-not-stands c =
    range-apart _ _ c.in_ok-a.a.number c.in_ok-a.a.next (sym c.signed_at.ensures ∙ c.in_ok-a.was) (sym c.stands.ensures ∙ c.if-not-stands.true)

pub returns-in_err-b : goal.returns-in_err-b
returns-in_err-b c =
    c.from_residual-in_err-b.ensures
    ∙ range-no-end _ _ c.in_ok-a.a.number c.in_ok-a.a.next (sym c.signed_at.ensures ∙ c.in_ok-a.was) (sym c.stands.ensures ∙ c.if-not-stands.false)
    _ _ c.signed_at-2.ensures c.in_err-b.was (omega arith)

pub returns : goal.returns
returns c =
    let first : to_z w64 (of_z w64 c.in_ok-a.a.number) ≡ c.in_ok-a.a.number = search rules in
    let end : to_z w64 (of_z w64 c.in_ok-b.b.number) ≡ c.in_ok-b.b.number = search rules in
    rw (first, end)
    (range-some _ _ c.in_ok-a.a.number c.in_ok-a.a.next (sym c.signed_at.ensures ∙ c.in_ok-a.was) (sym c.stands.ensures ∙ c.if-not-stands.false)
    _ _ c.signed_at-2.ensures c.in_ok-b.b.number c.in_ok-b.b.next c.in_ok-b.was (omega arith))
