-- The length of a runtime's text: no sum on the way to it wraps.
-- Assumes nothing.
use Prim.Native.Nat.{◌≤◌}
use native.Mathlib.Omega.{arith}
use borrow.Author.Rules.{rules}
use Rattle.written.proofs.Parts.{clock-most}
use Rattle.runtime_writer.specs.RuntimeText.{clock_hours, clock_minutes, clock_seconds}
use Rattle.runtime_writer.proofs.Laws.{tail-length}
use Rattle.runtime_writer.proofs.RuntimeTextWritable.length.Goals as goal
use Rattle.runtime_writer.proofs.RuntimeTextWritable.length.Goals.{After-clock_length}

short : (c : After-clock_length) → c.clock_length.result ≤ 63
short c =
    let t = c.args.self.now in
    omega (arith, c.clock_length.ensures, clock-most t.negative (clock_hours t.seconds) (clock_minutes t.seconds) (clock_seconds t.seconds) (search rules) (search rules) (search rules))

pub overflow_add-result : goal.overflow_add-result
overflow_add-result c =
    record { fits = omega (arith, short (goal.at.overflow_add-result c).After-clock_length) }

pub overflow_add-result-2 : goal.overflow_add-result-2
overflow_add-result-2 c =
    record { fits = omega (arith, short (goal.at.overflow_add-result-2 c).After-clock_length, c.args.self.now.few_digits) }

pub returns : goal.returns
returns c =
    let t = c.args.self.now in
    omega (arith, c.clock_length.ensures, tail-length t.negative t.seconds t.tail)
