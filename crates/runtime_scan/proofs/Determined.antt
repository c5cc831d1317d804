-- Each public function's contract allows one outcome: two that meet its equations are equal.
-- Assumes nothing.
use mathlib.Core.Path.{sym, ap, ◌∙◌}
use Rattle.outcomes.specs.Outcome.{Determined}
use Rattle.runtime_scan.specs.contracts.scan_runtime as scan-runtime
use Rattle.runtime_scan.proofs.scan_runtime.Reads as scan-runtime-reads

pub scan-runtime-determined : Determined scan-runtime.ended scan-runtime-reads.Asked scan-runtime-reads.Learnt
scan-runtime-determined κs a asked x y p q = ap (λ z. (z, x.1)) (p ∙ sym q)
