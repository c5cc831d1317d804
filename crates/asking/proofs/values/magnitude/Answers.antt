-- `asking::values::magnitude` meets its contract: what is held of the digits so far.
-- Assumes nothing.
use native.Mathlib.Omega.{arith}
use lib.ListN.{get_or}
use Rattle.digits.proofs.Values.{digit-bounds}
use Rattle.asking.proofs.NumberLaws.{valuing-start, valuing-turn, digit_at}
use Rattle.asking.proofs.values.magnitude.Goals as goal

pub loop-b-init : goal.loop-b-init
loop-b-init c =
    valuing-start _

pub overflow_sub-b : goal.overflow_sub-b
overflow_sub-b c =
    omega (arith, digit-bounds (get_or c.args.d.now c.loop-b.b-index 0) (digit_at c.args.d.now c.requires c.loop-b.b-index c.loop-b-test.true))

pub loop-b-preserved : goal.loop-b-preserved
loop-b-preserved c =
    valuing-turn _ _ _ _ _ c.loop-b.invariant c.requires c.loop-b-test.true c.saturating_mul.ensures c.saturating_add-m.ensures
