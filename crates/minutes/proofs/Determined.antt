-- Each public function's contract allows one outcome: two that meet its equations are equal.
-- Assumes nothing.
use mathlib.Core.Path.{sym, ap, ◌∙◌}
use Rattle.outcomes.specs.Outcome.{Determined}
use Rattle.minutes.specs.contracts.minute_start as minute-start
use Rattle.minutes.proofs.minute_start.Reads as minute-start-reads

pub minute-start-determined : Determined minute-start.ended minute-start-reads.Asked minute-start-reads.Learnt
minute-start-determined κs a asked x y p q = ap (λ z. (z, x.1)) (p ∙ sym q)
