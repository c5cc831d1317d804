-- `showing::each::of_timed` meets its contract: case by case.
-- Assumes nothing.
use mir.Syntax.{w64}
use mir.Val.{to_z, of_z}
use Rattle.std.specs.Prelude.{None}
use mathlib.Core.Path.{◌≡◌, sym, ap, ◌∙◌}
use borrow.Author.Rules.{rules}
use Rattle.showing.specs.Each.{two_numbers, of_timed}
use Rattle.showing.proofs.each.of_timed.Goals as goal

pub returns-in-Ok : goal.returns-in-Ok
returns-in-Ok c =
    let back : to_z w64 (of_z w64 c.in-Ok.f.p) ≡ c.in-Ok.f.p = search rules in
    c.two_numbers.ensures ∙ ap (λ z. two_numbers None z 47 c.in-Ok.f.q) back ∙ sym (ap of_timed c.in-Ok.is)
