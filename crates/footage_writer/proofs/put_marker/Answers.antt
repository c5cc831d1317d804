-- `footage_writer::put_marker` meets its contract: a format with a perf field has a marker, and for another there is no text.
-- Assumes nothing.
use mathlib.Core.Path.{sym, ap, ◌∙◌}
use mathlib.Core.List.{◌∷◌}
use Rattle.lent.specs.Line.{laid}
use Rattle.lent.proofs.Laws.{laid_nil}
use Rattle.written.proofs.Parts.{decimal-wide}
use Rattle.footage_writer.proofs.Laws.{marker-some, marker-none}
use Rattle.footage_writer.proofs.put_marker.Goals as goal

pub returns-then-allows_perf_field : goal.returns-then-allows_perf_field
returns-then-allows_perf_field c =
    let some = marker-some c.args.format c.args.perf (sym c.allows_perf_field.ensures ∙ c.if-allows_perf_field.true) in
    c.put_marked.ensures
    ∙ ap (laid c.args.part.now) (ap (λ d. 46 ∷ d) (decimal-wide 1 c.args.perf _ c.width_of.ensures) ∙ sym some)

pub returns-else-allows_perf_field : goal.returns-else-allows_perf_field
returns-else-allows_perf_field c =
    let none = marker-none c.args.format c.args.perf (sym c.allows_perf_field.ensures ∙ c.if-allows_perf_field.false) in
    sym (ap (laid c.args.part.now) none ∙ laid_nil c.args.part.now)
