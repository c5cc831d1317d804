-- Each public function's contract allows one outcome: two that meet its equations are equal.
-- Assumes nothing.
use mathlib.Core.Path.{sym, ap, ◌∙◌}
use Rattle.outcomes.specs.Outcome.{Determined}
use Rattle.footage_scan.specs.contracts.scan_footage as scan-footage
use Rattle.footage_scan.proofs.scan_footage.Reads as scan-footage-reads

pub scan-footage-determined : Determined scan-footage.ended scan-footage-reads.Asked scan-footage-reads.Learnt
scan-footage-determined κs a asked x y p q = ap (λ z. (z, x.1)) (p ∙ sym q)
