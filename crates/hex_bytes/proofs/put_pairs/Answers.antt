-- `hex_bytes::put_pairs` meets its contract: each turn lays the two digits of a byte down.
-- Assumes nothing.
use Prim.Native.Nat.{◌*◌}
use mathlib.Core.Path.{refl}
use native.Mathlib.Omega.{arith}
use Rattle.lent.proofs.Copying.{copying-done}
use Rattle.hex_bytes.specs.Hex.{digit_pairs}
use Rattle.hex_bytes.proofs.Pairs.{digit-pairs-length}
use Rattle.hex_bytes.proofs.Filling.{putting-turn}
use Rattle.hex_bytes.proofs.put_pairs.Goals as goal

pub loop-i-init : goal.loop-i-init
loop-i-init c =
    let long = digit-pairs-length c.args.bytes.now in
    record { room = omega (arith, c.requires); within = omega arith; long = refl; is = refl }

pub loop-i-preserved : goal.loop-i-preserved
loop-i-preserved c =
    putting-turn c.args.bytes.now c.args.part.now c.loop-i.part c.loop-i.i _ _ c.loop-i.invariant c.loop-i-test.true
    c.lower_digit.ensures c.lower_digit-in-loop-i.ensures

pub returns : goal.returns
returns c =
    copying-done (digit_pairs c.args.bytes.now) c.args.part.now c.loop-i.part (2 * c.loop-i.i) c.loop-i.invariant
    (omega (arith, digit-pairs-length c.args.bytes.now, c.loop-i-test.false))
