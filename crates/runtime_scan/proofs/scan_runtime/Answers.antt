-- `runtime_scan::scan_runtime` meets its contract: its tail is brought to millionths, which wraps nowhere.
-- Assumes nothing.
use Rattle.std.proofs.Common.{sym, arith}
use Rattle.scanner.proofs.Statements.{text_bounded}
use Rattle.runtime_scan.specs.Shape.{runtime_grammar}
use Rattle.runtime_scan.proofs.Millionths.{scaled_fits}
use Rattle.runtime_scan.proofs.scan_runtime.Goals as goal

pub overflow_mul-result : goal.overflow_mul-result
overflow_mul-result c =
    let b = text_bounded runtime_grammar c.args.text.now c.in_ok-scan.scan (sym c.in_ok-scan.ensures) in
    omega (arith, scaled_fits c.in_ok-scan.scan.tail c.in_ok-scan.scan.digits c.scale-power.result b.tail c.scale-power.ensures)
