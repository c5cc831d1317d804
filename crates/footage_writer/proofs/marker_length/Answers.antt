-- `footage_writer::marker_length` meets its contract: a format with a perf field has a marker, and another has none.
-- Assumes nothing.
use native.Mathlib.Omega.{arith}
use mathlib.Core.Path.{sym, ap, ◌∙◌}
use lib.ListN.{length}
use borrow.Author.Rules.{rules}
use Rattle.digits.proofs.Width.{decimal_length}
use Rattle.written.proofs.Parts.{wide-most}
use Rattle.footage_writer.proofs.Laws.{marker-some, marker-none}
use Rattle.footage_writer.proofs.marker_length.Goals as goal

pub overflow_add-result : goal.overflow_add-result
overflow_add-result c =
    record { fits = omega (arith, wide-most 1 c.args.perf _ (omega arith) (search rules) c.width_of.ensures) }

pub returns-then-allows_perf_field : goal.returns-then-allows_perf_field
returns-then-allows_perf_field c =
    let some = marker-some c.args.format c.args.perf (sym c.allows_perf_field.ensures ∙ c.if-allows_perf_field.true) in
    omega (arith, c.width_of.ensures, ap length some, decimal_length 1 c.args.perf)

pub returns : goal.returns
returns c =
    sym (ap length (marker-none c.args.format c.args.perf (sym c.allows_perf_field.ensures ∙ c.if-allows_perf_field.false)))
