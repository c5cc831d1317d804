-- Each public function's contract allows one outcome: two that meet its equations are equal.
-- Assumes nothing.
use mathlib.Core.Path.{sym, ap, ◌∙◌}
use Rattle.outcomes.specs.Outcome.{Determined}
use Rattle.reasons.specs.contracts.why as why
use Rattle.reasons.proofs.why.Reads as why-reads

pub why-determined : Determined why.ended why-reads.Asked why-reads.Learnt
why-determined κs a asked x y p q =
    ap (λ z. (z, x.1)) (p.0 ∙ sym q.0) ∙ ap (λ z. (y.0, (x.1.0, (x.1.1.0, (x.1.1.1.0, (x.1.1.1.1.0, (z, x.1.1.1.1.1.1))))))) (p.1 ∙ sym q.1)
