-- `showing::each::of_number` meets its contract: case by case.
-- Assumes nothing.
use mir.Syntax.{w64}
use mir.Val.{to_z, of_z}
use Rattle.std.specs.Prelude.{None}
use mathlib.Core.Path.{◌≡◌, sym, ap, ◌∙◌}
use borrow.Author.Rules.{rules}
use Rattle.showing.specs.Each.{one_number, of_number}
use Rattle.showing.proofs.each.of_number.Goals as goal
use Rattle.showing.proofs.each.of_number.Goals.{In-Ok}

back : (c : In-Ok) → to_z w64 (of_z w64 c.in-Ok.z) ≡ c.in-Ok.z
back c =
    search rules

pub returns-in-Ok : goal.returns-in-Ok
returns-in-Ok c =
    c.one_number.ensures ∙ ap (one_number None) (back (goal.at.returns-in-Ok c).In-Ok) ∙ sym (ap of_number c.in-Ok.is)

pub returns-in-Err : goal.returns-in-Err
returns-in-Err c =
    c.of_refusal.ensures ∙ sym (ap of_number c.in-Err.is)
