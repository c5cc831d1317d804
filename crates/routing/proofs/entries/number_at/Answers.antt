-- `routing::entries::number_at` meets its contract: what has a sign is none.
-- Assumes nothing.
use Rattle.std.proofs.lemmas.Bool.{not_from_false, not_from_true}
use mathlib.Core.Path.{◌≡◌, sym, ap, ◌∙◌}
use borrow.Author.Rules.{rules}
use borrow.Author.Tests.{not-true, not-false}
use lib.IntN.{nat_abs}
use mir.Syntax.{w64}
use mir.Val.{to_z, of_z}
use Rattle.routing.specs.Entries.{Number}
use Rattle.routing.proofs.Reading.{found_by, found-minus, found_plain, found-none}
use Rattle.routing.proofs.entries.number_at.Goals as goal

pub returns-in-Some : goal.returns-in-Some
returns-in-Some c =
    let back : to_z w64 (of_z w64 c.in-Some.word.number) ≡ c.in-Some.word.number = search rules in
    ap (λ n. Number n c.in-Some.word.next) (c.unsigned_abs.ensures.value ∙ ap nat_abs back)
    ∙ ap found_by (sym c.in-Some.is ∙ c.signed_at.ensures)
    ∙ found_plain _ _ (sym c.stands.ensures ∙ not-true _ (not_from_false _ c.if-not-stands.true))

pub returns-in_default : goal.returns-in_default
returns-in_default c =
    found-minus _ _ (sym c.stands.ensures ∙ not-false _ (not_from_true _ c.if-not-stands.false))

pub returns-in_default-2 : goal.returns-in_default-2
returns-in_default-2 c =
    found-none _ _ (sym c.signed_at.ensures ∙ c.in_default.is)
