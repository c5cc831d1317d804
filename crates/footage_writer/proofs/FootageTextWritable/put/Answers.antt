-- `footage_writer::put_parts` meets its contract: frames and marker, each lent the rest of the part, stand right behind what is there.
-- Assumes nothing.
use Prim.Native.Nat.{◌+◌, ◌≤◌}
use native.Mathlib.Omega.{arith}
use lib.ListN.{length}
use Rattle.lent.proofs.Laws.{laid-three}
use Rattle.written.specs.Parts.{signed_text, field_text}
use Rattle.footage_writer.specs.FootageText.{perf_text, feet_text}
use Rattle.footage_writer.proofs.Laws.{feet-length}
use Rattle.footage_writer.proofs.FootageTextWritable.put.Goals as goal
use Rattle.footage_writer.proofs.FootageTextWritable.put.Goals.{Start}

-- feet and frames lie within the room asked for
fit : (c : Start) → length (signed_text c.args.self.now.negative c.args.self.now.footage.feet) + length (field_text 43 c.args.self.now.footage.frames) ≤ length c.args.part.now
fit c =
    omega (arith, c.requires, feet-length c.args.self.now.negative c.args.self.now.format c.args.self.now.footage)

pub overflow_add-second : goal.overflow_add-second
overflow_add-second c =
    record { fits = omega (arith, fit (goal.at.overflow_add-second c).Start) }

pub slice_bounds-put_field-count : goal.slice_bounds-put_field-count
slice_bounds-put_field-count c =
    omega (arith, fit (goal.at.slice_bounds-put_field-count c).Start)

pub slice_bounds-put_field-start : goal.slice_bounds-put_field-start
slice_bounds-put_field-start c =
    omega (arith, fit (goal.at.slice_bounds-put_field-start c).Start)

pub slice_bounds-put_marker-count : goal.slice_bounds-put_marker-count
slice_bounds-put_marker-count c =
    omega (arith, fit (goal.at.slice_bounds-put_marker-count c).Start)

pub slice_bounds-put_marker-start : goal.slice_bounds-put_marker-start
slice_bounds-put_marker-start c =
    omega (arith, fit (goal.at.slice_bounds-put_marker-start c).Start)

pub returns : goal.returns
unfolding feet_text
returns c =
    laid-three c.args.part.now _ _ _ (signed_text c.args.self.now.negative c.args.self.now.footage.feet) (field_text 43 c.args.self.now.footage.frames) (perf_text c.args.self.now.format c.args.self.now.footage.perf)
    c.signed_length-first.result _
    c.requires
    c.put_signed.ensures
    c.signed_length-first.ensures
    c.put_field.ensures
    (omega (arith, c.field_length.ensures))
    c.put_marker.ensures
