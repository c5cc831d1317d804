-- `low_bytes::put_number` meets its contract: each turn sets the lowest byte that is left.
-- Assumes nothing.
use Rattle.std.proofs.Common.{arith, sym, refl, ◌≡◌, ◌-◌, length-take}
use Rattle.lent.proofs.Laws.{laid_out}
use Rattle.low_bytes.specs.LowBytes.{low_bytes}
use Rattle.low_bytes.specs.Laws.{low-length}
use Rattle.low_bytes.proofs.Laying.{laying-turn, laying-done}
use Rattle.low_bytes.proofs.put_number.Goals as goal

pub loop-byte-init : goal.loop-byte-init
loop-byte-init c = let w : c.args.width - 0 ≡ c.args.width = omega arith in rw w refl

pub loop-byte-preserved : goal.loop-byte-preserved
loop-byte-preserved c =
    laying-turn _ _ _ _ _ c.loop-byte.invariant (omega (arith, length-take c.args.width c.args.part.now)) (omega arith)

pub returns-after-loop-byte : goal.returns-after-loop-byte
returns-after-loop-byte c =
    laying-done _ _ _ _ _ c.loop-byte.invariant _ (omega (arith, length-take c.args.width c.args.part.now)) (omega arith) (omega arith)

pub returns-else-width-part : goal.returns-else-width-part
returns-else-width-part c =
    sym (laid_out _ (low_bytes c.args.width c.args.n) (omega (arith, low-length c.args.width c.args.n)))
