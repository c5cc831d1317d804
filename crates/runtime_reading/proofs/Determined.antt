-- Each public function's contract allows one outcome: two that meet its equation are equal.
-- Assumes nothing.
use mathlib.Core.Path.{sym, ap, ◌∙◌}
use Rattle.outcomes.specs.Outcome.{Determined}
use Rattle.runtime_reading.specs.contracts.read_runtime as read-runtime
use Rattle.runtime_reading.proofs.read_runtime.Reads as read-runtime-reads

pub read-runtime-determined : Determined read-runtime.ended read-runtime-reads.Asked read-runtime-reads.Learnt
read-runtime-determined κs a asked x y p q = ap (λ z. (z, x.1)) (p ∙ sym q)
