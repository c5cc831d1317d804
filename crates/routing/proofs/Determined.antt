-- Each public function's contract allows one outcome: two that meet its equations are equal.
-- Assumes nothing.
use denote.Param.Laws.{Laws}
use denote.RattleType.{RattleType}
use mir.Syntax.{Dict}
use mathlib.Core.Path.{◌≡◌, sym, ap, ◌∙◌}
use Rattle.streams.specs.declared.sheets.Page.{Ghosts}
use Rattle.outcomes.specs.Outcome.{Determined}
use Rattle.routing.specs.contracts.entries.entry_of as entry_of
use Rattle.routing.proofs.entries.entry_of.Reads as entry-of-reads
use Rattle.routing.specs.contracts.loading.Loading.new as new
use Rattle.routing.proofs.loading.Loading.new.Reads as new-reads
use Rattle.routing.specs.contracts.loading.load as load
use Rattle.routing.proofs.loading.load.Reads as load-reads
use Rattle.routing.specs.contracts.flaws.tell_flaw as tell-flaw
use Rattle.routing.proofs.flaws.tell_flaw.Reads as tell-flaw-reads
use Rattle.routing.specs.contracts.queries.query_of as query-of
use Rattle.routing.proofs.queries.query_of.Reads as query-of-reads
use Rattle.routing.specs.contracts.told.answer as answer
use Rattle.routing.proofs.told.answer.Reads as answer-reads

pub entry-of-determined : Determined entry_of.ended entry-of-reads.Asked entry-of-reads.Learnt
entry-of-determined κs a asked x y p q = ap (λ z. (z, x.1)) (p ∙ sym q)

pub new-determined : Determined new.ended new-reads.Asked new-reads.Learnt
new-determined κs a asked x y p q = ap (λ z. (z, x.1)) (p ∙ sym q)

pub load-determined : Determined load.ended load-reads.Asked load-reads.Learnt
load-determined κs a asked x y p q = ap (λ z. (z, x.1)) (p ∙ sym q)

pub tell-flaw-determined : (P : RattleType) (laws : Laws P) (page : Ghosts P.Denot) (code : Dict) (whole : (x y : P.Denot) → page.seen x ≡ page.seen y → x ≡ y)
    → Determined (tell-flaw.ended P page code) (tell-flaw-reads.Asked P laws page code) (tell-flaw-reads.Learnt P laws page code)
tell-flaw-determined P laws page code whole κs a asked x y p q = ap (λ z. (x.0, (z, x.1.1))) (whole _ _ (p ∙ sym q))

pub query-of-determined : Determined query-of.ended query-of-reads.Asked query-of-reads.Learnt
query-of-determined κs a asked x y p q = ap (λ z. (z, x.1)) (p ∙ sym q)

pub answer-determined : (P : RattleType) (laws : Laws P) (page : Ghosts P.Denot) (code : Dict) (whole : (x y : P.Denot) → page.seen x ≡ page.seen y → x ≡ y)
    → Determined (answer.ended P page code) (answer-reads.Asked P laws page code) (answer-reads.Learnt P laws page code)
answer-determined P laws page code whole κs a asked x y p q = ap (λ z. (x.0, (z, x.1.1))) (whole _ _ (p ∙ sym q))
