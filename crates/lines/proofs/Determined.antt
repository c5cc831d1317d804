-- Each public function's contract allows one outcome: two that meet its equations are equal.
-- Assumes nothing.
use mathlib.Core.Path.{sym, ap, ◌∙◌}
use Rattle.outcomes.specs.Outcome.{Determined}
use Rattle.lines.specs.contracts.answer as answer
use Rattle.lines.proofs.answer.Reads as answer-reads
use Rattle.lines.specs.contracts.answer_to_line as answer-to-line
use Rattle.lines.proofs.answer_to_line.Reads as answer-to-line-reads

pub answer-determined : Determined answer.ended answer-reads.Asked answer-reads.Learnt
answer-determined κs a asked x y p q = ap (λ z. (z, x.1)) (p.0 ∙ sym q.0) ∙ ap (λ z. (y.0, (x.1.0, (z, x.1.1.1)))) (p.1 ∙ sym q.1)

pub answer-to-line-determined : Determined answer-to-line.ended answer-to-line-reads.Asked answer-to-line-reads.Learnt
answer-to-line-determined κs a asked x y p q = ap (λ z. (z, x.1)) (p ∙ sym q)
