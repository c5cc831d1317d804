-- Each public function's contract allows one outcome: two that meet its equations are equal.
-- Assumes nothing.
use mathlib.Core.Path.{sym, ap, ◌∙◌}
use Rattle.outcomes.specs.Outcome.{Determined}
use Rattle.runtime_writer.specs.contracts.write_runtime as write_runtime
use Rattle.runtime_writer.proofs.write_runtime.Reads as write-runtime-reads

pub write-runtime-determined : Determined write_runtime.ended write-runtime-reads.Asked write-runtime-reads.Learnt
write-runtime-determined κs a asked x y p q = ap (λ z. (z, x.1)) (p.0 ∙ sym q.0) ∙ ap (λ z. (y.0, (x.1.0, (x.1.1.0, (z, x.1.1.1.1))))) (p.1 ∙ sym q.1)
