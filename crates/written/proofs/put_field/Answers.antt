-- `written::put_field` meets its contract: the digits that `width_of` answers are two at least, or all that the number has.
-- Assumes nothing.
use mathlib.Core.Path.{ap, ◌∙◌}
use mathlib.Core.List.{◌∷◌}
use Rattle.lent.specs.Line.{laid}
use Rattle.written.proofs.Parts.{decimal-wide}
use Rattle.written.proofs.put_field.Goals as goal

pub returns : goal.returns
returns c =
    c.put_marked.ensures ∙ ap (λ x. laid c.args.part.now (c.args.mark ∷ x)) (decimal-wide 2 c.args.n _ c.width_of.ensures)
