-- Bytes are laid down as HEX: `-` for none, else two digits for each.
-- Assumes nothing.
use Rattle.std.specs.Prelude.{◌≡◌, ◌≢◌, length}
use borrow.Author.Rules.{rules}
use native.Mathlib.Omega.{arith}
use mathlib.Core.Path.{sym, ap, ◌∙◌}
use Rattle.lent.specs.Line.{laid}
use Rattle.hex_bytes.proofs.Pairs.{digit-pairs-length, hex-text-none, hex-text-some}
use Rattle.hex_bytes.proofs.HexWritable.put.Goals as goal

pub put_pairs-requires : goal.put_pairs-requires
put_pairs-requires c =
    let some : length c.args.self.now.bytes.now ≢ 0 = search rules in
    omega (arith, c.requires, ap length (hex-text-some c.args.self.now.bytes.now some), digit-pairs-length c.args.self.now.bytes.now)

pub returns-then-is_empty : goal.returns-then-is_empty
returns-then-is_empty c =
    let none : length c.args.self.now.bytes.now ≡ 0 = search rules in
    c.put_byte.ensures ∙ sym (ap (laid c.args.part.now) (hex-text-none c.args.self.now.bytes.now none))

pub returns-else-is_empty : goal.returns-else-is_empty
returns-else-is_empty c =
    let some : length c.args.self.now.bytes.now ≢ 0 = search rules in
    c.put_pairs.ensures ∙ sym (ap (laid c.args.part.now) (hex-text-some c.args.self.now.bytes.now some))
