-- `hex_bytes::read` meets its contract: HEX whose bytes have room is filled in, and nothing else changes the buffer.
-- Assumes nothing.
use mathlib.Core.Path.{sym, ◌∙◌}
use Rattle.hex_bytes.proofs.Taking.{read-in, read_out, read_none}
use Rattle.outcomes.proofs.Clauses.{answer_bytes}
use Rattle.hex_bytes.proofs.read.Goals as goal
use Rattle.hex_bytes.proofs.read.Goals.{else-is_hex-via-then-is_hex+else-count-into, else-is_hex-via-else-is_hex}

pub returns-then-count-into : goal.returns-then-count-into
returns-then-count-into c =
    answer_bytes (read-in c.args.text.now c.args.into.now _ (sym c.is_hex.ensures ∙ c.if-is_hex.true) c.if-count-into.true c.fill.ensures)

pub returns : goal.returns
returns c =
    elim c.else-is_hex.branch [
      | else-is_hex-via-then-is_hex+else-count-into w ↦
          answer_bytes (read_out c.args.text.now c.args.into.now (sym c.is_hex.ensures ∙ w.if-is_hex.true) w.if-count-into.false)
      | else-is_hex-via-else-is_hex w ↦
          answer_bytes (read_none c.args.text.now c.args.into.now (sym c.is_hex.ensures ∙ w.if-is_hex.false))
    ]
