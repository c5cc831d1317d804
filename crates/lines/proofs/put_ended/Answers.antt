-- `lines::put_ended` meets its contract: the byte, lent the rest of the part, stands right behind the number.
-- Assumes nothing.
use mathlib.Core.List.{[], ◌∷◌}
use Rattle.lent.proofs.Laws.{laid-lent}
use Rattle.written.specs.Parts.{signed_text}
use Rattle.lines.proofs.put_ended.Goals as goal

pub returns : goal.returns
returns c =
    laid-lent c.args.part.now _ _ (signed_text c.args.minus c.args.m) (c.args.end ∷ []) _
    c.put_signed.ensures c.signed_length-at.ensures c.requires c.put_byte.ensures
