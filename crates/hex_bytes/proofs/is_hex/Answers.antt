-- `hex_bytes::is_hex` meets its contract: the length decides, and then the bytes.
-- Assumes nothing.
use mathlib.Core.Path.{sym, ◌∙◌}
use native.Mathlib.Omega.{arith}
use borrow.Author.Tests.{ne_eqb}
use Rattle.hex_bytes.proofs.Taking.{hex-empty, hex-single, hex-odd, hex-even}
use Rattle.hex_bytes.proofs.is_hex.Goals as goal

pub returns-in-empty : goal.returns-in-empty
returns-in-empty c = sym (hex-empty c.args.text.now (omega arith))

pub returns-in-len1 : goal.returns-in-len1
returns-in-len1 c = sym (hex-single c.args.text.now (omega arith))

pub returns-then-text-eq0 : goal.returns-then-text-eq0
returns-then-text-eq0 c = c.all_hex_digits.ensures ∙ sym (hex-even c.args.text.now (omega arith) c.if-text-eq0.true)

pub returns-else-text-eq0 : goal.returns-else-text-eq0
returns-else-text-eq0 c = ne_eqb _ 0 c.if-text-eq0.false ∙ sym (hex-odd c.args.text.now (omega arith) (omega arith))
