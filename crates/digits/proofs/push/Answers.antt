-- `digits::push` meets its contract: a digit more is ten times the value and the digit, which from the tenth on is not taken.
-- Assumes nothing.
use Rattle.std.proofs.Common.{arith, sym}
use Rattle.digits.proofs.Taking.{push-early, push-late}
use Rattle.digits.proofs.push.Goals as goal

pub returns-then-count-lt9 : goal.returns-then-count-lt9
returns-then-count-lt9 c =
    omega (arith, push-early c.args.value c.args.count c.args.b (omega arith))

pub returns-else-count-lt9 : goal.returns-else-count-lt9
returns-else-count-lt9 c =
    sym (push-late c.args.value c.args.count c.args.b (omega arith))
