-- `scanner::Cursor::past` meets its contract: past the end no byte stands, and within the text the byte there decides.
-- Assumes nothing.
use Rattle.std.proofs.Common.{true, false, eq-eqb, ne_eqb}
use Rattle.digits.specs.Digits.{is_byte}
use Rattle.scanner.proofs.Answers.{past-here, past_end}
use Rattle.scanner.proofs.cursor.Cursor.past.Goals as goal
use Rattle.scanner.proofs.cursor.Cursor.past.Goals.{else-at-s-via-then-at-s+else-s-at, else-at-s-via-else-at-s}

pub returns-then-s-at : goal.returns-then-s-at
returns-then-s-at c =
    past-here (is_byte c.args.b) c.args.s.now c.args.self.at true c.if-at-s.true (eq-eqb _ _ c.if-s-at.true)

pub returns-else-at-s : goal.returns-else-at-s
returns-else-at-s c =
    elim c.else-at-s.branch [
      | else-at-s-via-then-at-s+else-s-at w ↦ past-here (is_byte c.args.b) c.args.s.now c.args.self.at false w.if-at-s.true (ne_eqb _ _ w.if-s-at.false)
      | else-at-s-via-else-at-s w ↦ past_end (is_byte c.args.b) c.args.s.now c.args.self.at w.if-at-s.false
    ]
