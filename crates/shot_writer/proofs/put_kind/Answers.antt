-- `shot_writer::put_kind` meets its contract: the number, lent the rest of the part, stands right behind the kind.
-- Assumes nothing.
use native.Mathlib.Omega.{arith}
use mathlib.Core.Path.{refl, sym, ap, ◌∙◌}
use mathlib.Core.List.{[], ◌∷◌}
use Rattle.lent.specs.Line.{laid}
use Rattle.lent.proofs.Laws.{laid_out, laid-lent}
use Rattle.low_bytes.specs.LowBytes.{low_bytes}
use Rattle.low_bytes.specs.Laws.{low-length}
use Rattle.shot_lists.specs.Entries.{kind_number}
use Rattle.shot_writer.proofs.put_kind.Goals as goal

pub returns-then-width-part : goal.returns-then-width-part
returns-then-width-part c =
    laid-lent c.args.part.now _ _ (kind_number c.args.kind ∷ []) (low_bytes c.args.width c.args.n) 1
    (c.put_byte.ensures ∙ ap (λ k. laid c.args.part.now (k ∷ [])) c.kind_byte.ensures)
    refl
    (omega (arith, c.if-width-part.true, low-length c.args.width c.args.n))
    c.put_number.ensures

pub returns-else-width-part : goal.returns-else-width-part
returns-else-width-part c =
    sym (laid_out c.args.part.now (kind_number c.args.kind ∷ low_bytes c.args.width c.args.n) (omega (arith, low-length c.args.width c.args.n)))
