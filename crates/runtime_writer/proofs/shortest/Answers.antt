-- `runtime_writer::shortest` meets its contract: a trailing zero is dropped from the number as it is from the text.
-- Assumes nothing.
use native.Mathlib.Omega.{arith}
use mathlib.Core.Path.{sym, ◌∙◌}
use Rattle.runtime_writer.proofs.Fraction.{fraction-drop, fraction-keep, fraction-one, fraction-none}
use Rattle.runtime_writer.proofs.shortest.Goals as goal

pub returns-then-k-eq0 : goal.returns-then-k-eq0
returns-then-k-eq0 c =
    rw c.if-k-eq0.true (fraction-none c.args.n)

pub loop-tail-preserved : goal.loop-tail-preserved
loop-tail-preserved c =
    record { some = omega arith; same = c.loop-tail.invariant.same ∙ fraction-drop _ _ c.loop-tail-test.true c.if-tail-eq0.true }

pub returns-else-tail-eq0 : goal.returns-else-tail-eq0
returns-else-tail-eq0 c =
    sym (c.loop-tail.invariant.same ∙ fraction-keep _ _ c.loop-tail-test.true c.if-tail-eq0.false)

pub returns-after-loop-tail : goal.returns-after-loop-tail
returns-after-loop-tail c =
    sym (c.loop-tail.invariant.same ∙ fraction-one _ _ (omega arith))
