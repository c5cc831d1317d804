-- `label_writer::put_sections` meets its contract: frames, lent the rest of the part, stand right behind the seconds.
-- Assumes nothing.
use Prim.Native.Nat.{◌≤◌}
use native.Mathlib.Omega.{arith}
use mathlib.Core.Path.{sym, ap, ◌∙◌}
use lib.ListN.{length}
use Rattle.lent.specs.Line.{laid}
use Rattle.lent.proofs.Laws.{laid_out, laid-lent}
use Rattle.written.specs.Parts.{field_text}
use Rattle.written.specs.Clock.{clock_text}
use Rattle.label_writer.specs.LabelText.{frames_mark, sections_text}
use Rattle.label_writer.proofs.Answers.{sections-length, sections-same}
use Rattle.label_writer.proofs.put_sections.Goals as goal
use Rattle.label_writer.proofs.put_sections.Goals.{Then-sections_length-part}

-- with room, the text lies within the part
fit : (c : Then-sections_length-part) → length (sections_text (frames_mark c.args.rate) c.args.s) ≤ length c.args.part.now
fit c =
    omega (arith, c.sections_length.ensures, sections-same (frames_mark c.args.rate) c.args.s)

pub slice_bounds-put_field-count : goal.slice_bounds-put_field-count
slice_bounds-put_field-count c =
    omega (arith, fit (goal.at.slice_bounds-put_field-count c).Then-sections_length-part, sections-length (frames_mark c.args.rate) c.args.s)

pub slice_bounds-put_field-start : goal.slice_bounds-put_field-start
slice_bounds-put_field-start c =
    omega (arith, fit (goal.at.slice_bounds-put_field-start c).Then-sections_length-part, sections-length (frames_mark c.args.rate) c.args.s)

pub returns-then-sections_length-part : goal.returns-then-sections_length-part
unfolding sections_text
returns-then-sections_length-part c =
    laid-lent c.args.part.now _ _ (clock_text c.args.s.negative c.args.s.hours c.args.s.minutes c.args.s.seconds) (field_text (frames_mark c.args.rate) c.args.s.frames) _
    c.put_clock.ensures
    c.clock_length-at.ensures
    (fit (goal.at.returns-then-sections_length-part c).Then-sections_length-part)
    (c.put_field.ensures ∙ ap (laid _) (ap (λ m. field_text m c.args.s.frames) c.frames_mark.ensures))

pub returns-else-sections_length-part : goal.returns-else-sections_length-part
returns-else-sections_length-part c =
    let text = sections_text (frames_mark c.args.rate) c.args.s in
    sym (laid_out c.args.part.now text (omega (arith, c.sections_length.ensures, sections-same (frames_mark c.args.rate) c.args.s)))
