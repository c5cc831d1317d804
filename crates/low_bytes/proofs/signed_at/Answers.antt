-- `low_bytes::signed_at` meets its contract: four bytes are worth less than 2 ^ 32, and as a signed number the upper half is less by that.
-- Assumes nothing.
use Rattle.std.proofs.Common.{arith, ap, ◌∙◌, ◌<◌, ◌≤◌, ◌^◌, length, take, drop, length-take, w32, w64}
use Rattle.std.proofs.Math.Nat.{pow-le-pow_right}
use mir.Facts.{to_z-of_z}
use Rattle.low_bytes.specs.LowBytes.{Bytes, signed_of}
use Rattle.low_bytes.specs.Laws.{bytes_take, bytes_drop}
use Rattle.low_bytes.proofs.Worth.{worth-below}
use Rattle.low_bytes.proofs.Machine.{read-signed}
use Rattle.low_bytes.proofs.signed_at.Goals as goal
use Rattle.low_bytes.proofs.signed_at.Goals.{After-number_at-n}

-- four bytes are worth less than 2 ^ 32
small : (c : After-number_at-n) → c.number_at-n.result < 4294967296
small c =
    let m = take 4 (drop c.args.at c.args.s.now) in
    let some : Bytes m = bytes_take 4 (drop c.args.at c.args.s.now) (bytes_drop c.args.at c.args.s.now (λ i. (c.type_inv.s i).fits)) in
    let short : length m ≤ 4 = omega (arith, length-take 4 (drop c.args.at c.args.s.now)) in
    let most : 256 ^ length m ≤ 4294967296 = pow-le-pow_right {n = 256} (omega arith) short in
    omega (arith, c.number_at-n.ensures, worth-below m some)

pub overflow_cast-n : goal.overflow_cast-n
overflow_cast-n c = record { fits = small c }

pub returns : goal.returns
returns c =
    to_z-of_z {w = w64} (record { sfits = c.from.type_inv })
    ∙ c.from.ensures
    ∙ to_z-of_z {w = w32} (record { sfits = c.cast_signed.type_inv })
    ∙ c.cast_signed.ensures
    ∙ read-signed c.number_at-n.result (small (goal.at.returns c).After-number_at-n)
    ∙ ap (signed_of 4) c.number_at-n.ensures
