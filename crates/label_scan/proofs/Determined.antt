-- Each public function's contract allows one outcome: two that meet its equations are equal.
-- Assumes nothing.
use mathlib.Core.Path.{sym, ap, ◌∙◌}
use Rattle.outcomes.specs.Outcome.{Determined}
use Rattle.label_scan.specs.contracts.scan_label as scan-label
use Rattle.label_scan.proofs.scan_label.Reads as scan-label-reads

pub scan-label-determined : Determined scan-label.ended scan-label-reads.Asked scan-label-reads.Learnt
scan-label-determined κs a asked x y p q = ap (λ z. (z, x.1)) (p ∙ sym q)
