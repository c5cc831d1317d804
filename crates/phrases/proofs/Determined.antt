-- Each public function's contract allows one outcome: two that meet its equations are equal.
-- Assumes nothing.
use mathlib.Core.Path.{sym, ap, ◌∙◌}
use Rattle.outcomes.specs.Outcome.{Determined}
use Rattle.phrases.specs.contracts.write_phrase as write_phrase
use Rattle.phrases.proofs.write_phrase.Reads as write-phrase-reads

pub write-phrase-determined : Determined write_phrase.ended write-phrase-reads.Asked write-phrase-reads.Learnt
write-phrase-determined κs a asked x y p q =
    ap (λ z. (z, x.1)) (p.0 ∙ sym q.0) ∙ ap (λ z. (y.0, (x.1.0, (z, x.1.1.1)))) (p.1 ∙ sym q.1)
