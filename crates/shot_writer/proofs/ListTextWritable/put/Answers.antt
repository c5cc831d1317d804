-- A list's text is put down: each turn lays the next record down, and what is left then makes the same part.
-- Assumes nothing.
use Prim.Native.Nat.{◌+◌, ◌≤◌, ◌<◌}
use mathlib.Core.Path.{◌≡◌, sym, ◌∙◌}
use native.Mathlib.Omega.{arith}
use lib.ListN.{length, drop}
use Rattle.shot_lists.specs.Entries.{in_numbers, entry_of, taken, over}
use Rattle.shot_lists.specs.Walk.{going-nearer}
use Rattle.shot_writer.specs.ListText.{record_bytes}
use Rattle.shot_writer.proofs.Putting.{putting-start, putting-room, putting-turn, putting-never, putting-over}
use Rattle.shot_writer.proofs.ListTextWritable.put.Goals as goal
use Rattle.shot_writer.proofs.ListTextWritable.put.Goals.{In-Ok-Some}

pub loop-record-init : goal.loop-record-init
loop-record-init c =
    putting-start _ _ c.args.self.now.sound c.requires

-- a record was taken
found : (c : In-Ok-Some)
    → entry_of in_numbers c.loop-record.held (drop c.loop-record.at c.args.self.now.given.now) ≡ taken c.in-Ok-Some.record.found c.in-Ok-Some.record.held c.in-Ok-Some.record.size
found c =
    let is : c.given_at.result ≡ taken c.in-Ok-Some.record.found c.in-Ok-Some.record.held c.in-Ok-Some.record.size = cc in
    sym c.given_at.ensures ∙ is

nearer-now : (c : In-Ok-Some)
    → (0 < c.in-Ok-Some.record.size) × (c.loop-record.at + c.in-Ok-Some.record.size ≤ length c.args.self.now.given.now)
nearer-now c =
    going-nearer in_numbers c.args.self.now.given.now c.loop-record.at c.loop-record.held _ _ _ (found c)

-- the record has room
room : (c : In-Ok-Some)
    → c.loop-record.to + length (record_bytes c.in-Ok-Some.record.found) ≤ length c.loop-record.part
room c =
    putting-room _ _ _ _ _ _ c.loop-record.invariant _ _ _ (found c)

pub overflow_add-to : goal.overflow_add-to
overflow_add-to c =
    record { fits = omega (arith, room (goal.at.overflow_add-to c).In-Ok-Some, c.record_length-to.ensures, c.loop-record.invariant.long) }

pub overflow_add-at : goal.overflow_add-at
overflow_add-at c =
    record { fits = omega (arith, (nearer-now (goal.at.overflow_add-at c).In-Ok-Some).1) }

pub loop-record-smaller : goal.loop-record-smaller
loop-record-smaller c =
    omega (arith, nearer-now (goal.at.loop-record-smaller c).In-Ok-Some)

pub loop-record-preserved : goal.loop-record-preserved
loop-record-preserved c =
    putting-turn _ _ _ _ _ _ c.loop-record.invariant _ _ _ (found (goal.at.loop-record-preserved c).In-Ok-Some) _ c.put_record.ensures _ c.record_length-to.ensures

pub slice_bounds-put_record-count : goal.slice_bounds-put_record-count
slice_bounds-put_record-count c = omega (arith, room (goal.at.slice_bounds-put_record-count c).In-Ok-Some)

pub slice_bounds-put_record-start : goal.slice_bounds-put_record-start
slice_bounds-put_record-start c = omega (arith, room (goal.at.slice_bounds-put_record-start c).In-Ok-Some)

-- the list is over
pub returns-in_default : goal.returns-in_default
returns-in_default c =
    let is : c.given_at.result ≡ over = cc in
    putting-over _ _ _ _ _ _ c.loop-record.invariant (sym c.given_at.ensures ∙ is)

-- no record of a list without fault is refused
pub returns-in_default-2 : goal.returns-in_default-2
returns-in_default-2 c =
    absurd (putting-never _ _ _ _ _ _ c.loop-record.invariant _ (sym c.given_at.ensures ∙ c.in_default.is))
