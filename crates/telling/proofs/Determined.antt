-- Each public function's contract allows one outcome: two that meet its equations are equal.
-- Assumes nothing.
use denote.Param.Laws.{Laws}
use denote.RattleType.{RattleType}
use mir.Syntax.{Dict}
use mathlib.Core.Path.{◌≡◌, sym, ap, ◌∙◌}
use Rattle.streams.specs.declared.sheets.Page.{Ghosts}
use Rattle.outcomes.specs.Outcome.{Determined}
use Rattle.telling.specs.contracts.told.tell as tell
use Rattle.telling.proofs.told.tell.Reads as tell-reads
use Rattle.telling.specs.contracts.questions.understand as understand
use Rattle.telling.proofs.questions.understand.Reads as understand-reads
use Rattle.telling.specs.contracts.answered.answer as answer
use Rattle.telling.proofs.answered.answer.Reads as answer-reads
use Rattle.telling.specs.contracts.joined.join as join
use Rattle.telling.proofs.joined.join.Reads as join-reads

pub tell-determined : (P : RattleType) (laws : Laws P) (page : Ghosts P.Denot) (code : Dict) (whole : (x y : P.Denot) → page.seen x ≡ page.seen y → x ≡ y)
    → Determined (tell.ended P page code) (tell-reads.Asked P laws page code) (tell-reads.Learnt P laws page code)
tell-determined P laws page code whole κs a asked x y p q = ap (λ z. (x.0, (z, x.1.1))) (whole _ _ (p ∙ sym q))

pub understand-determined : Determined understand.ended understand-reads.Asked understand-reads.Learnt
understand-determined κs a asked x y p q = ap (λ z. (z, x.1)) (p ∙ sym q)

pub answer-determined : (P : RattleType) (laws : Laws P) (page : Ghosts P.Denot) (code : Dict) (whole : (x y : P.Denot) → page.seen x ≡ page.seen y → x ≡ y)
    → Determined (answer.ended P page code) (answer-reads.Asked P laws page code) (answer-reads.Learnt P laws page code)
answer-determined P laws page code whole κs a asked x y p q = ap (λ z. (x.0, (z, x.1.1))) (whole _ _ (p ∙ sym q))

pub join-determined : (P : RattleType) (laws : Laws P) (page : Ghosts P.Denot) (code : Dict) (whole : (x y : P.Denot) → page.seen x ≡ page.seen y → x ≡ y)
    → Determined (join.ended P page code) (join-reads.Asked P laws page code) (join-reads.Learnt P laws page code)
join-determined P laws page code whole κs a asked x y p q = ap (λ z. (z, x.1)) (p.0 ∙ sym q.0) ∙ ap (λ z. (y.0, (z, x.1.1))) (whole _ _ (p.1 ∙ sym q.1))
