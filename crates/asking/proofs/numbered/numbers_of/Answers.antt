-- `asking::numbered::numbers_of` meets its contract: number by number.
-- Assumes nothing.
use mathlib.Core.Path.{◌≡◌, refl, ap, ◌∙◌}
use lib.ListN.{get_or}
use borrow.Author.Rules.{rules}
use mir.Syntax.{w64}
use mir.Val.{to_z, of_z}
use Rattle.numbers.specs.Sign.{up_from}
use Rattle.asking.specs.Asked.{no_value}
use Rattle.asking.proofs.Listing.{numbers-are}
use Rattle.asking.proofs.numbered.numbers_of.Goals as goal

pub returns : goal.returns
returns c =
    let b0 : to_z w64 (of_z w64 (get_or c.args.v 0 no_value).number) ≡ (get_or c.args.v 0 no_value).number = search rules in
    let b1 : to_z w64 (of_z w64 (get_or c.args.v 1 no_value).number) ≡ (get_or c.args.v 1 no_value).number = search rules in
    let b2 : to_z w64 (of_z w64 (get_or c.args.v 2 no_value).number) ≡ (get_or c.args.v 2 no_value).number = search rules in
    let b3 : to_z w64 (of_z w64 (get_or c.args.v 3 no_value).number) ≡ (get_or c.args.v 3 no_value).number = search rules in
    let b4 : to_z w64 (of_z w64 (get_or c.args.v 4 no_value).number) ≡ (get_or c.args.v 4 no_value).number = search rules in
    numbers-are c.args.v _ _ _ _ _ _ _ _ _ _ _
    (c.up_from.ensures ∙ ap up_from b0)
    b1
    (c.up_from-2.ensures ∙ ap up_from b1)
    b2
    (c.up_from-3.ensures ∙ ap up_from b2)
    b3
    (c.up_from-4.ensures ∙ ap up_from b3)
    (c.up_from-5.ensures ∙ ap up_from b4)
    refl
    refl
    refl
