-- `written::put_clock` meets its contract: minutes and seconds, each lent the rest of the part, stand right behind what is there.
-- Assumes nothing.
use Prim.Native.Nat.{◌+◌, ◌≤◌}
use native.Mathlib.Omega.{arith}
use mathlib.Core.Path.{sym}
use lib.ListN.{length}
use Rattle.lent.proofs.Laws.{laid_out, laid-three}
use Rattle.written.specs.Parts.{padded_text, field_text}
use Rattle.written.specs.Clock.{clock_text}
use Rattle.written.proofs.Parts.{clock-length}
use Rattle.written.proofs.put_clock.Goals as goal
use Rattle.written.proofs.put_clock.Goals.{Then-clock_length-part}

-- with room, the parts lie within it
fit : (c : Then-clock_length-part)
    → length (padded_text c.args.minus 2 c.args.hours) + length (field_text 58 c.args.minutes) + length (field_text 58 c.args.seconds) ≤ length c.args.part.now
fit c =
    omega (arith, clock-length c.args.minus c.args.hours c.args.minutes c.args.seconds, c.clock_length.ensures)

pub overflow_add-second : goal.overflow_add-second
overflow_add-second c =
    record { fits = omega (arith, fit (goal.at.overflow_add-second c).Then-clock_length-part) }

pub put_padded-requires : goal.put_padded-requires
put_padded-requires c =
    omega (arith, fit (goal.at.put_padded-requires c).Then-clock_length-part)

pub slice_bounds-put_field-count : goal.slice_bounds-put_field-count
slice_bounds-put_field-count c =
    omega (arith, fit (goal.at.slice_bounds-put_field-count c).Then-clock_length-part)

pub slice_bounds-put_field-start : goal.slice_bounds-put_field-start
slice_bounds-put_field-start c =
    omega (arith, fit (goal.at.slice_bounds-put_field-start c).Then-clock_length-part)

pub slice_bounds-put_field-count-then-clock_length-part : goal.slice_bounds-put_field-count-then-clock_length-part
slice_bounds-put_field-count-then-clock_length-part c =
    omega (arith, fit (goal.at.slice_bounds-put_field-count-then-clock_length-part c).Then-clock_length-part)

pub slice_bounds-put_field-start-then-clock_length-part : goal.slice_bounds-put_field-start-then-clock_length-part
slice_bounds-put_field-start-then-clock_length-part c =
    omega (arith, fit (goal.at.slice_bounds-put_field-start-then-clock_length-part c).Then-clock_length-part)

pub returns-then-clock_length-part : goal.returns-then-clock_length-part
unfolding clock_text
returns-then-clock_length-part c =
    laid-three c.args.part.now _ _ _ (padded_text c.args.minus 2 c.args.hours) (field_text 58 c.args.minutes) (field_text 58 c.args.seconds) c.padded_length-first.result _
    (omega (arith, fit (goal.at.returns-then-clock_length-part c).Then-clock_length-part, clock-length c.args.minus c.args.hours c.args.minutes c.args.seconds))
    c.put_padded.ensures
    c.padded_length-first.ensures
    c.put_field.ensures
    (omega (arith, c.field_length.ensures))
    c.put_field-then-clock_length-part.ensures

pub returns-else-clock_length-part : goal.returns-else-clock_length-part
returns-else-clock_length-part c =
    sym (laid_out c.args.part.now (clock_text c.args.minus c.args.hours c.args.minutes c.args.seconds) (omega arith))
