-- The length of what is laid down of bytes as HEX: `-` is one byte, and each byte else two.
-- Assumes nothing.
use Rattle.std.specs.Prelude.{◌≡◌, ◌≢◌, length}
use borrow.Author.Rules.{rules}
use mathlib.Core.Path.{sym, ap, ◌∙◌}
use Rattle.hex_bytes.proofs.Pairs.{digit-pairs-length, hex-text-none, hex-text-some}
use Rattle.hex_bytes.proofs.HexWritable.length.Goals as goal

pub returns-then-is_empty : goal.returns-then-is_empty
returns-then-is_empty c =
    let none : length c.args.self.now.bytes.now ≡ 0 = search rules in
    sym (ap length (hex-text-none c.args.self.now.bytes.now none))

pub returns-else-is_empty : goal.returns-else-is_empty
returns-else-is_empty c =
    let some : length c.args.self.now.bytes.now ≢ 0 = search rules in
    sym (ap length (hex-text-some c.args.self.now.bytes.now some) ∙ digit-pairs-length c.args.self.now.bytes.now)
