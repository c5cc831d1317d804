-- `written::clock_length` meets its contract: the sum of what its three fields take, 63 bytes at most.
-- Assumes nothing.
use Prim.Native.Nat.{◌+◌, ◌≤◌}
use native.Mathlib.Omega.{arith}
use lib.ListN.{length}
use borrow.Author.Rules.{rules}
use Rattle.written.specs.Parts.{padded_text, field_text}
use Rattle.written.proofs.Parts.{clock-length, clock-most}
use Rattle.written.proofs.clock_length.Goals as goal
use Rattle.written.proofs.clock_length.Goals.{Start}

-- no sum on the way to it wraps
short : (c : Start) → length (padded_text c.args.minus 2 c.args.hours) + length (field_text 58 c.args.minutes) + length (field_text 58 c.args.seconds) ≤ 63
short c =
    let most = clock-most c.args.minus c.args.hours c.args.minutes c.args.seconds (search rules) (search rules) (search rules) in
    omega (arith, clock-length c.args.minus c.args.hours c.args.minutes c.args.seconds)

pub overflow_add-result : goal.overflow_add-result
overflow_add-result c =
    record { fits = omega (arith, short (goal.at.overflow_add-result c).Start) }

pub overflow_add-result-2 : goal.overflow_add-result-2
overflow_add-result-2 c =
    record { fits = omega (arith, short (goal.at.overflow_add-result-2 c).Start) }

pub returns : goal.returns
returns c =
    omega (arith, clock-length c.args.minus c.args.hours c.args.minutes c.args.seconds)
