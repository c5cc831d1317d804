-- `hex_bytes::all_hex_digits` meets its contract: told from each byte.
-- Assumes nothing.
use Rattle.std.specs.Prelude.{◌↔◌, ◌<◌, IsTrue, EachIndex}
use borrow.Author.Rules.{rules}
use lib.ListN.{get_or}
use Rattle.hex_bytes.specs.Digits.{hex_value}
use Rattle.hex_bytes.proofs.AllDigits.{all-hex-told}
use Rattle.hex_bytes.proofs.all_hex_digits.Goals as goal

pub returns : goal.returns
returns c =
    let each : IsTrue c.all.result ↔ EachIndex c.args.text.now (λ k. hex_value (get_or c.args.text.now k 0) < 16) = search rules in
    all-hex-told c.args.text.now c.all.result each
