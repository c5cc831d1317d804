-- `written::put_sign` meets its contract: a sign is one byte below 0, and no text else.
-- Assumes nothing.
use mathlib.Core.Path.{sym, ◌∙◌}
use Rattle.lent.proofs.Laws.{laid_nil}
use Rattle.written.proofs.put_sign.Goals as goal

pub returns-then-minus : goal.returns-then-minus
returns-then-minus c =
    c.put_byte.ensures ∙ rw c.if-minus.true

pub returns-else-minus : goal.returns-else-minus
returns-else-minus c =
    sym (laid_nil c.args.part.now) ∙ rw c.if-minus.false
