-- `streams::gather` meets its contract: what is wanted from here is what is wanted from the start.
-- Assumes nothing.
use mathlib.Core.Path.{◌≡◌}
use native.Mathlib.Omega.{arith}
use Rattle.streams.proofs.Gathering.{running-end, running-turn, running-out}
use Rattle.outcomes.proofs.Clauses.{answer_buffer}
use Rattle.streams.proofs.gathered.gather.Goals as goal

pub returns-then-chunk-i-eq10 : goal.returns-then-chunk-i-eq10
returns-then-chunk-i-eq10 c =
    answer_buffer
    (running-end _ _ _ _ _ _ _ c.loop-i.invariant.running c.loop-i-test.true c.if-chunk-i-eq10.true)

pub loop-i-preserved : goal.loop-i-preserved
loop-i-preserved c =
    record {
      running = running-turn _ _ _ _ _ _ _ c.loop-i.invariant.running _ _ c.loop-i-test.true c.if-chunk-i-eq10.false (c.take-h.ensures.answer, c.take-h.ensures.buffer);
      end = omega arith;
    }

pub returns : goal.returns
returns c =
    let e : c.max.result ≡ c.loop-i.i = omega (arith, c.max.ensures) in
    rw e (answer_buffer (running-out _ _ _ _ _ _ _ c.loop-i.invariant.running c.loop-i-test.false))
