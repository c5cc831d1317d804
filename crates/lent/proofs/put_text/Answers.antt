-- `lent::put_text` meets its contract: each turn copies one byte, and once all are copied the text is laid down.
-- Assumes nothing.
use mathlib.Core.Path.{sym}
use native.Mathlib.Omega.{arith}
use Rattle.lent.proofs.Laws.{laid_out}
use Rattle.lent.proofs.Copying.{copying-turn, copying-done}
use Rattle.lent.proofs.put_text.Goals as goal

pub returns-then-part-text : goal.returns-then-part-text
returns-then-part-text c = sym (laid_out _ _ c.if-part-text.true)

pub loop-i-preserved : goal.loop-i-preserved
loop-i-preserved c = copying-turn _ _ _ _ c.loop-i.invariant (omega (arith, c.loop-i-test.true))

pub returns : goal.returns
returns c = copying-done _ _ _ _ c.loop-i.invariant (omega (arith, c.loop-i-test.false))
