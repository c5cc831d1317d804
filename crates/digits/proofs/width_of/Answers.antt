-- `digits::width_of` meets its contract: two digits are enough for a number below 100; of any other its logarithm tells them.
-- Assumes nothing.
use Rattle.std.proofs.Common.{arith}
use Rattle.digits.proofs.Width.{width-at-most, width_log}
use Rattle.digits.proofs.width_of.Goals as goal

pub returns-then-least-gt1 : goal.returns-then-least-gt1
returns-then-least-gt1 c =
    omega (arith, width-at-most c.args.n 2 (omega arith) (omega arith))

pub returns : goal.returns
returns c =
    let w = width_log c.args.n c.max.result c.ilog10.result (omega arith) c.ilog10.ensures.power_le c.ilog10.ensures.next_power_gt in
    omega arith
