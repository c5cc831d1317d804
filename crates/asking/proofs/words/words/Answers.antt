-- `asking::words::words` meets its contract: what is wanted from here is what is wanted from the start.
-- Assumes nothing.
use mathlib.Core.Path.{◌≡◌, ◌∙◌}
use native.Mathlib.Omega.{arith}
use borrow.Author.Rules.{rules}
use mir.Syntax.{w64}
use mir.Val.{to_z, of_z}
use Rattle.asking.proofs.Taken.{going_start, going-none, going-turn, going-ended}
use Rattle.asking.proofs.words.words.Goals as goal

pub loop-kind-init : goal.loop-kind-init
loop-kind-init c = going_start _ _ _

pub returns-in_default : goal.returns-in_default
returns-in_default c =
    c.not_understood.ensures
    ∙ going-none _ _ _ _ _ _ c.loop-kind.invariant _ c.is_number.ensures c.loop-kind-test.true _ c.kind_of-kind.ensures
    _ c.word_at.ensures c.in_default.is

pub loop-kind-preserved : goal.loop-kind-preserved
loop-kind-preserved c =
    let back : to_z w64 (of_z w64 c.in-Some.w.number) ≡ c.in-Some.w.number = search rules in
    rw back
    (going-turn _ _ _ _ _ _ c.loop-kind.invariant _ c.is_number.ensures c.loop-kind-test.true _ c.kind_of-kind.ensures
    _ c.word_at.ensures c.in-Some.w.number c.in-Some.w.next _ _ c.in-Some.is c.is_marked.ensures (omega arith))

pub returns : goal.returns
returns c =
    c.ended.ensures ∙ going-ended _ _ _ _ _ _ c.loop-kind.invariant _ c.is_number.ensures c.loop-kind-test.false
