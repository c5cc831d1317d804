-- Each public function's contract allows one outcome: two that meet its equations are equal.
-- Assumes nothing.
use mathlib.Core.Path.{sym, ap, ◌∙◌}
use Rattle.outcomes.specs.Outcome.{Determined}
use Rattle.scanner.specs.contracts.text.scan_text as scan-text
use Rattle.scanner.proofs.text.scan_text.Reads as scan-text-reads

pub scan-text-determined : Determined scan-text.ended scan-text-reads.Asked scan-text-reads.Learnt
scan-text-determined κs a asked x y p q = ap (λ z. (z, x.1)) (p ∙ sym q)
