-- `scanner::Cursor::divider` meets its contract: where no field may come and past the end none stands, and else the byte there decides.
-- Assumes nothing.
use Rattle.std.proofs.Common.{◌≡◌, ◌∙◌, sym, ap, arith, ℕ, ◌<◌, Bool, true, false, drop}
use Rattle.scanner.specs.declared.fields.Dividers.{Dividers}
use Rattle.scanner.specs.Scan.{divider_of, looked_for}
use Rattle.scanner.proofs.Answers.{past-here, past_end, past-closed, looked-some}
use Rattle.scanner.proofs.cursor.Cursor.divider.Goals as goal
use Rattle.scanner.proofs.cursor.Cursor.divider.Goals.{else-left-gt0-via-then-left-gt0+then-at-s+else-divides, else-left-gt0-via-then-left-gt0+else-at-s, else-left-gt0-via-else-left-gt0}

-- what the byte at the cursor is, it is as one that is looked for
looked : (d : Dividers) (left b : ℕ) (r t : Bool) → 0 < left → r ≡ divider_of d b → r ≡ t → looked_for left (divider_of d) b ≡ t
looked d left b r t h is e = ap (λ (test : ℕ → Bool). test b) (looked-some left (divider_of d) (λ z. omega arith)) ∙ sym is ∙ e

pub returns-then-divides : goal.returns-then-divides
returns-then-divides c =
    past-here (looked_for c.args.left (divider_of c.args.dividers)) c.args.s.now c.args.self.at true c.if-at-s.true
    (looked c.args.dividers c.args.left _ c.divides.result true c.if-left-gt0.true c.divides.ensures c.if-divides.true)

pub returns-else-left-gt0 : goal.returns-else-left-gt0
returns-else-left-gt0 c =
    elim c.else-left-gt0.branch [
      | else-left-gt0-via-then-left-gt0+then-at-s+else-divides w ↦
          past-here (looked_for c.args.left (divider_of c.args.dividers)) c.args.s.now c.args.self.at false w.if-at-s.true
          (looked c.args.dividers c.args.left _ w.divides.result false w.if-left-gt0.true w.divides.ensures w.if-divides.false)
      | else-left-gt0-via-then-left-gt0+else-at-s w ↦ past_end (looked_for c.args.left (divider_of c.args.dividers)) c.args.s.now c.args.self.at w.if-at-s.false
      | else-left-gt0-via-else-left-gt0 w ↦ past-closed (divider_of c.args.dividers) c.args.left c.args.self.at (drop c.args.self.at c.args.s.now) (omega (arith, w.if-left-gt0.false))
    ]
