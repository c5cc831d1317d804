-- Each public function's contract allows one outcome: two that meet its equations are equal.
-- Assumes nothing.
use mathlib.Core.Path.{sym, ap, ◌∙◌}
use Rattle.outcomes.specs.Outcome.{Determined}
use Rattle.footage_writer.specs.contracts.write_footage as write_footage
use Rattle.footage_writer.proofs.write_footage.Reads as write-footage-reads

pub write-footage-determined : Determined write_footage.ended write-footage-reads.Asked write-footage-reads.Learnt
write-footage-determined κs a asked x y p q = ap (λ z. (z, x.1)) (p.0 ∙ sym q.0) ∙ ap (λ z. (y.0, (x.1.0, (x.1.1.0, (z, x.1.1.1.1))))) (p.1 ∙ sym q.1)
