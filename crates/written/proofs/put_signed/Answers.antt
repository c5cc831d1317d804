-- `written::put_signed` meets its contract: with room it is the number in one digit at least, and without nothing was done.
-- Assumes nothing.
use native.Mathlib.Omega.{arith}
use mathlib.Core.Path.{sym}
use Rattle.lent.proofs.Laws.{laid_out}
use Rattle.written.specs.Parts.{signed_text}
use Rattle.written.proofs.put_signed.Goals as goal

pub returns-else-signed_length-part : goal.returns-else-signed_length-part
returns-else-signed_length-part c =
    sym (laid_out c.args.part.now (signed_text c.args.minus c.args.m) (omega arith))
