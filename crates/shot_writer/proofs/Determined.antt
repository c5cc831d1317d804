-- Each public function's contract allows one outcome: two that meet its equations are equal.
-- Assumes nothing.
use mathlib.Core.Path.{sym, ap, ◌∙◌}
use Rattle.outcomes.specs.Outcome.{Determined}
use Rattle.shot_writer.specs.contracts.write_list as write_list
use Rattle.shot_writer.proofs.write_list.Reads as write-list-reads

pub write-list-determined : Determined write_list.ended write-list-reads.Asked write-list-reads.Learnt
write-list-determined κs a asked x y p q = ap (λ z. (z, x.1)) (p.0 ∙ sym q.0) ∙ ap (λ z. (y.0, (x.1.0, (z, x.1.1.1)))) (p.1 ∙ sym q.1)
