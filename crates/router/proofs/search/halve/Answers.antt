-- `router::search::halve` meets its contract: each turn halves the part, and what is wanted of it is what was wanted of the list.
-- Assumes nothing.
use native.Mathlib.Omega.{arith}
use Rattle.router.specs.HalvingLaws.{halves-start, halves-up, halves-down, halves-done}
use Rattle.router.proofs.search.halve.Goals as goal

pub loop-lo-init : goal.loop-lo-init
loop-lo-init c =
    halves-start c.args.v c.args.xs.now

pub loop-lo-preserved-then-xs-mid : goal.loop-lo-preserved-then-xs-mid
loop-lo-preserved-then-xs-mid c =
    halves-up c.args.v c.args.xs.now c.loop-lo.lo c.loop-lo.hi c.loop-lo.invariant (omega arith) c.if-xs-mid.true

pub loop-lo-preserved : goal.loop-lo-preserved
loop-lo-preserved c =
    halves-down c.args.v c.args.xs.now c.loop-lo.lo c.loop-lo.hi c.loop-lo.invariant (omega arith) c.if-xs-mid.false

pub returns : goal.returns
returns c =
    halves-done c.args.v c.args.xs.now c.loop-lo.lo c.loop-lo.hi c.loop-lo.invariant c.loop-lo-test.false
