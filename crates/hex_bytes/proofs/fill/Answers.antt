-- `hex_bytes::fill` meets its contract: each turn lays the byte of two digits down.
-- Assumes nothing.
use mathlib.Core.Path.{refl}
use native.Mathlib.Omega.{arith}
use Rattle.lent.proofs.Copying.{copying-done}
use Rattle.hex_bytes.specs.Hex.{pair_bytes}
use Rattle.hex_bytes.proofs.Pairs.{pair-bytes-length}
use Rattle.hex_bytes.proofs.Taking.{hex-pair}
use Rattle.hex_bytes.proofs.Filling.{filling-turn}
use Rattle.hex_bytes.proofs.fill.Goals as goal

pub loop-i-init : goal.loop-i-init
loop-i-init c =
    let long = pair-bytes-length c.args.text.now in
    record { room = omega (arith, c.requires.room); within = omega arith; long = refl; is = refl }

pub byte_of-requires : goal.byte_of-requires
byte_of-requires c =
    let pair = hex-pair c.args.text.now c.loop-i.i c.requires.hex c.loop-i-test.true in
    record { high = omega arith; low = omega arith }

pub loop-i-preserved : goal.loop-i-preserved
loop-i-preserved c =
    filling-turn c.args.text.now c.args.into.now c.loop-i.into c.loop-i.i c.byte_of.result _ _ c.loop-i.invariant c.loop-i-test.true
    c.hex_value-high.ensures c.hex_value-low.ensures c.byte_of.ensures

pub returns : goal.returns
returns c =
    copying-done (pair_bytes c.args.text.now) c.args.into.now c.loop-i.into c.loop-i.i c.loop-i.invariant
    (omega (arith, pair-bytes-length c.args.text.now, c.loop-i-test.false))
