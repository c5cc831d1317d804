-- Each public function's contract allows one outcome: two that meet its equations are equal.
-- Assumes nothing.
use denote.Param.Laws.{Laws}
use denote.RattleType.{RattleType}
use mir.Syntax.{Dict}
use mathlib.Core.Path.{◌≡◌, sym, ap, ◌∙◌}
use Rattle.outcomes.specs.Outcome.{Determined}
use Rattle.streams.specs.declared.sheets.Page.{Ghosts}
use Rattle.feeding.specs.contracts.feed as feed
use Rattle.feeding.proofs.feed.Reads as feed-reads
use Rattle.feeding.specs.contracts.finish as finish
use Rattle.feeding.proofs.finish.Reads as finish-reads

pub feed-determined : (P : RattleType) (laws : Laws P) (page : Ghosts P.Denot) (code : Dict) (whole : (x y : P.Denot) → page.seen x ≡ page.seen y → x ≡ y)
    → Determined (feed.ended P page code) (feed-reads.Asked P laws page code) (feed-reads.Learnt P laws page code)
feed-determined P laws page code whole κs a asked x y p q =
    ap (λ z. (z, x.1)) (p.0 ∙ sym q.0)
    ∙ ap (λ z. (y.0, (x.1.0, (z, x.1.1.1)))) (p.1.0 ∙ sym q.1.0)
    ∙ ap (λ z. (y.0, (x.1.0, (y.1.1.0, (z, x.1.1.1.1))))) (whole _ _ (p.1.1 ∙ sym q.1.1))

pub finish-determined : (P : RattleType) (laws : Laws P) (page : Ghosts P.Denot) (code : Dict) (whole : (x y : P.Denot) → page.seen x ≡ page.seen y → x ≡ y)
    → Determined (finish.ended P page code) (finish-reads.Asked P laws page code) (finish-reads.Learnt P laws page code)
finish-determined P laws page code whole κs a asked x y p q = ap (λ z. (x.0, (x.1.0, (z, x.1.1.1)))) (whole _ _ (p ∙ sym q))
