-- `reading::read_footage` meets its contract: a perf field that the format has not is refused, then a footage that cannot be on the film,
-- and any other has its count.
-- Assumes nothing.
use Rattle.std.specs.Prelude.{Err}
use Rattle.std.proofs.lemmas.Bool.{not_from_false, not_from_true}
use mathlib.Core.Path.{sym, ap, ◌∙◌}
use Rattle.numbers.proofs.Tests.{fails, passes}
use Rattle.reading.specs.Answer.{as_footage}
use Rattle.reading.specs.ReadingLaws.{footage-marked, footage-off, footage-on}
use Rattle.reading.proofs.read_footage.Goals as goal

pub returns-then-not-takes_perf : goal.returns-then-not-takes_perf
returns-then-not-takes_perf c =
    ap Err c.into.ensures
    ∙ (sym (footage-marked c.args.rate c.args.format c.args.scan.minus c.args.scan.feet c.args.scan.frames c.args.scan.perf c.args.scan.marker (fails c.takes_perf.ensures (not_from_false _ c.if-not-takes_perf.true))))

pub returns-then-not-on_film : goal.returns-then-not-on_film
returns-then-not-on_film c =
    ap Err c.into-then-not-on_film.ensures
    ∙ (sym (footage-off c.args.rate c.args.format c.args.scan.minus c.args.scan.feet c.args.scan.frames c.args.scan.perf c.args.scan.marker
    (passes c.takes_perf.ensures (not_from_true _ c.if-not-takes_perf.false))
    (fails c.on_film.ensures (not_from_false _ c.if-not-on_film.true))))

pub returns : goal.returns
returns c =
    c.as_footage.ensures
    ∙ ap (as_footage c.args.rate c.args.format) c.footage_count-counted.ensures
    ∙ sym (footage-on c.args.rate c.args.format c.args.scan.minus c.args.scan.feet c.args.scan.frames c.args.scan.perf c.args.scan.marker
    (passes c.takes_perf.ensures (not_from_true _ c.if-not-takes_perf.false))
    (passes c.on_film.ensures (not_from_true _ c.if-not-on_film.false)))
