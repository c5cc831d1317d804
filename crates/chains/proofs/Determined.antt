-- Each public function's contract allows one outcome: two that meet its equation are equal.
-- Assumes nothing.
use mathlib.Core.Path.{sym, ap, ◌∙◌}
use Rattle.outcomes.specs.Outcome.{Determined}
use Rattle.chains.specs.contracts.convert as convert
use Rattle.chains.proofs.convert.Reads as convert-reads

pub convert-determined : Determined convert.ended convert-reads.Asked convert-reads.Learnt
convert-determined κs a asked x y p q = ap (λ z. (z, x.1)) (p ∙ sym q)
