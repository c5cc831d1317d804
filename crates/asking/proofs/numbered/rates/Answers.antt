-- `asking::numbered::rates` meets its contract: what is wanted from here is what is wanted from the start.
-- Assumes nothing.
use mathlib.Core.Path.{◌≡◌, sym, ap, ◌∙◌}
use native.Mathlib.Omega.{arith}
use borrow.Author.Rules.{rules}
use Rattle.std.proofs.lemmas.List.{set-get_or}
use mir.Syntax.{w64}
use mir.Val.{to_z, of_z}
use Rattle.numbers.specs.Sign.{up_from}
use Rattle.asking.proofs.Listing.{lists-start, lists-other, lists-full, lists-turn}
use Rattle.asking.proofs.numbered.rates.Goals as goal

pub loop-n-init : goal.loop-n-init
loop-n-init c = lists-start _ _ _

pub loop-n-preserved : goal.loop-n-preserved
loop-n-preserved c =
    let back : to_z w64 (of_z w64 c.in-Some.w.number) ≡ c.in-Some.w.number = search rules in
    lists-turn _ _ _ _ _ _ c.loop-n.invariant c.in-Some.w.number c.in-Some.w.next _ (omega (arith, c.loop-n.auto.list, c.loop-n-test.true))
    (sym c.number.ensures ∙ c.in-Some.is) (c.up_from.ensures ∙ ap up_from back)

pub returns-in_default-clause-answer : goal.returns-in_default-clause-answer
returns-in_default-clause-answer c = (lists-other _ _ _ _ _ _ c.loop-n.invariant (sym c.number.ensures ∙ c.in_default.is)).0

pub returns-in_default-clause-list : goal.returns-in_default-clause-list
returns-in_default-clause-list c =
    set-get_or c.loop-n.list c.loop-n.n 0 ∙ (lists-other _ _ _ _ _ _ c.loop-n.invariant (sym c.number.ensures ∙ c.in_default.is)).1

pub returns-clause-answer : goal.returns-clause-answer
returns-clause-answer c = (lists-full _ _ _ _ _ _ c.loop-n.invariant c.loop-n-test.false).0

pub returns-clause-list : goal.returns-clause-list
returns-clause-list c = (lists-full _ _ _ _ _ _ c.loop-n.invariant c.loop-n-test.false).1
