-- `reasons::footage_fact` meets its contract: each arm is the definition by the number of the cause that led there.
-- Assumes nothing.
use mathlib.Core.Path.{sym, ap, ◌∙◌}
use Rattle.answers.specs.Causes.{cause_number}
use Rattle.faults.specs.Faults.{count_fault}
use Rattle.reasons.specs.Facts.{limit_from}
use Rattle.reasons.proofs.Facts.{footage-five, footage-thirteen, footage-none, number_apart}
use Rattle.reasons.proofs.footage_fact.Goals as goal

pub returns-in-OutOfBounds : goal.returns-in-OutOfBounds
returns-in-OutOfBounds c =
    let s = c.args.scan in
    c.limit_from.ensures
    ∙ ap limit_from (c.count_fault.ensures ∙ ap (count_fault s.minus) c.footage_frames-frames.ensures)
    ∙ sym (footage-five (cause_number c.args.cause) c.args.format s.minus s.feet s.frames s.perf s.marker (ap cause_number c.in-OutOfBounds.is))

pub returns-in-NotOnFilm : goal.returns-in-NotOnFilm
returns-in-NotOnFilm c =
    let s = c.args.scan in
    c.limit_from-in-NotOnFilm.ensures
    ∙ ap limit_from c.film_fault.ensures
    ∙ sym (footage-thirteen (cause_number c.args.cause) c.args.format s.minus s.feet s.frames s.perf s.marker (ap cause_number c.in-NotOnFilm.is))

pub returns-in_default : goal.returns-in_default
returns-in_default c =
    let s = c.args.scan in
    sym (footage-none (cause_number c.args.cause) c.args.format s.minus s.feet s.frames s.perf s.marker
    (number_apart c.args.cause 5 c.in_default.not-OutOfBounds)
    (number_apart c.args.cause 13 c.in_default.not-NotOnFilm))
