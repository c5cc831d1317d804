-- `scanner::Cursor::field` meets its contract: the run at the cursor, which lies within the text.
-- Assumes nothing.
use Prim.Native.Nat.{◌^◌}
use native.Mathlib.Omega.{arith}
use lib.ListN.{drop}
use Rattle.scanner.proofs.Answers.{run-field, run-within}
use Rattle.scanner.proofs.cursor.Cursor.field.Goals as goal

pub overflow_add-result : goal.overflow_add-result
overflow_add-result c =
    omega (arith, run-within c.args.s.now c.args.self.at (2 ^ 64) c.run_at-run.result c.run_at-run.ensures (omega arith) (omega arith))

pub returns : goal.returns
returns c =
    run-field c.args.self.at (drop c.args.self.at c.args.s.now) c.run_at-run.result c.run_at-run.ensures
