-- `numbers::exact::nearest` meets its contract: the remainder says on which side of the half the number lies.
-- Assumes nothing.
use mathlib.Core.Path.{sym}
use Prim.Native.Nat.{◌+◌, ◌/◌}
use native.Mathlib.Nat.{div-add-mod', mod-lt}
use native.Mathlib.Omega.{arith}
use Rattle.numbers.specs.NearestLaws.{near-is}
use Rattle.numbers.proofs.exact.nearest.Goals as goal

pub returns-then-n-r : goal.returns-then-n-r
returns-then-n-r c =
    let s = div-add-mod' c.args.a c.args.n in
    let m = mod-lt c.args.a c.requires in
    sym (near-is c.args.a c.args.n (c.args.a / c.args.n + 1) c.requires (omega arith) (omega arith))

pub returns-else-n-r : goal.returns-else-n-r
returns-else-n-r c =
    let s = div-add-mod' c.args.a c.args.n in
    let m = mod-lt c.args.a c.requires in
    sym (near-is c.args.a c.args.n (c.args.a / c.args.n) c.requires (omega arith) (omega arith))
