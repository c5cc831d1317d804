-- `showing::each::of_refusal` meets its contract: a refusal's number is small.
-- Assumes nothing.
use Rattle.std.specs.Prelude.{Some}
use Rattle.showing.specs.declared.Word.TheVariants.{Refused}
use mathlib.Core.Path.{ap, ◌∙◌}
use lib.IntN.{pos}
use borrow.Author.Rules.{rules}
use mir.Syntax.{w64}
use mir.Val.{SFits}
use mir.Facts.{to_z-of_z}
use Rattle.showing.specs.Each.{one_number}
use Rattle.showing.proofs.each.of_refusal.Goals as goal

pub returns : goal.returns
returns c =
    let fits : SFits w64 (pos c.number.result) = record { sfits = search rules } in
    c.one_number.ensures ∙ ap (one_number (Some Refused)) (to_z-of_z fits ∙ ap pos c.number.ensures)
