-- Each public function's contract allows one outcome: two that meet its equations are equal.
-- Assumes nothing.
use Prim.Native.Nat.{ℕ}
use denote.Param.Laws.{Laws}
use denote.RattleType.{RattleType}
use mir.Syntax.{Dict}
use mathlib.Core.Path.{◌≡◌, sym, ap, ◌∙◌}
use Rattle.streams.specs.declared.sheets.Page.{Ghosts}
use Rattle.written.specs.declared.Writable as writable
use Rattle.outcomes.specs.Outcome.{Determined}
use Rattle.showing.specs.contracts.each.of_answer as of-answer
use Rattle.showing.proofs.each.of_answer.Reads as of-answer-reads
use Rattle.showing.specs.contracts.each.of_converted as of-converted
use Rattle.showing.proofs.each.of_converted.Reads as of-converted-reads
use Rattle.showing.specs.contracts.each.of_number as of-number
use Rattle.showing.proofs.each.of_number.Reads as of-number-reads
use Rattle.showing.specs.contracts.each.of_timed as of-timed
use Rattle.showing.proofs.each.of_timed.Reads as of-timed-reads
use Rattle.showing.specs.contracts.each.of_read as of-read
use Rattle.showing.proofs.each.of_read.Reads as of-read-reads
use Rattle.showing.specs.contracts.show as show
use Rattle.showing.proofs.show.Reads as show-reads
use Rattle.showing.specs.contracts.show_written as show-written
use Rattle.showing.proofs.show_written.Reads as show-written-reads
use Rattle.showing.specs.contracts.lists.show_list as show-list
use Rattle.showing.proofs.lists.show_list.Reads as show-list-reads
use Rattle.showing.specs.contracts.why.show_why as show_why
use Rattle.showing.proofs.why.show_why.Reads as show-why-reads
use Rattle.showing.specs.contracts.route.show_routed as show_routed
use Rattle.showing.proofs.route.show_routed.Reads as show-routed-reads

pub of-answer-determined : Determined of-answer.ended of-answer-reads.Asked of-answer-reads.Learnt
of-answer-determined κs a asked x y p q = ap (λ z. (z, x.1)) (p ∙ sym q)

pub of-converted-determined : Determined of-converted.ended of-converted-reads.Asked of-converted-reads.Learnt
of-converted-determined κs a asked x y p q = ap (λ z. (z, x.1)) (p ∙ sym q)

pub of-number-determined : Determined of-number.ended of-number-reads.Asked of-number-reads.Learnt
of-number-determined κs a asked x y p q = ap (λ z. (z, x.1)) (p ∙ sym q)

pub of-timed-determined : Determined of-timed.ended of-timed-reads.Asked of-timed-reads.Learnt
of-timed-determined κs a asked x y p q = ap (λ z. (z, x.1)) (p ∙ sym q)

pub of-read-determined : Determined of-read.ended of-read-reads.Asked of-read-reads.Learnt
of-read-determined κs a asked x y p q = ap (λ z. (z, x.1)) (p ∙ sym q)

pub show-determined : (P : RattleType) (laws : Laws P) (page : Ghosts P.Denot) (code : Dict) (whole : (x y : P.Denot) → page.seen x ≡ page.seen y → x ≡ y)
    → Determined (show.ended P page code) (show-reads.Asked P laws page code) (show-reads.Learnt P laws page code)
show-determined P laws page code whole κs a asked x y p q = ap (λ z. (x.0, (z, x.1.1))) (whole _ _ (p ∙ sym q))

pub show-written-determined : (P T : RattleType) (laws : Laws P) (laws' : Laws T) (page : Ghosts P.Denot) (code : Dict) (text : writable.Ghosts T.Denot) (code' : Dict) (whole : (x y : P.Denot) → page.seen x ≡ page.seen y → x ≡ y)
    → Determined (show-written.ended P T page code text code') (show-written-reads.Asked P T laws laws' page code text code') (show-written-reads.Learnt P T laws laws' page code text code')
show-written-determined P T laws laws' page code text code' whole κs a asked x y p q = ap (λ z. (x.0, (z, x.1.1))) (whole _ _ (p ∙ sym q))

pub show-list-determined : (P : RattleType) (laws : Laws P) (page : Ghosts P.Denot) (code : Dict) (whole : (x y : P.Denot) → page.seen x ≡ page.seen y → x ≡ y)
    → Determined (show-list.ended P page code) (show-list-reads.Asked P laws page code) (show-list-reads.Learnt P laws page code)
show-list-determined P laws page code whole κs a asked x y p q = ap (λ z. (x.0, (z, x.1.1))) (whole _ _ (p ∙ sym q))

pub show-why-determined : (P : RattleType) (laws : Laws P) (page : Ghosts P.Denot) (code : Dict) (whole : (x y : P.Denot) → page.seen x ≡ page.seen y → x ≡ y)
    → Determined (show_why.ended P page code) (show-why-reads.Asked P laws page code) (show-why-reads.Learnt P laws page code)
show-why-determined P laws page code whole κs a asked x y p q = ap (λ z. (x.0, (z, x.1.1))) (whole _ _ (p ∙ sym q))

pub show-routed-determined : (P : RattleType) (laws : Laws P) (page : Ghosts P.Denot) (code : Dict) (whole : (x y : P.Denot) → page.seen x ≡ page.seen y → x ≡ y)
    → Determined (show_routed.ended P page code) (show-routed-reads.Asked P laws page code) (show-routed-reads.Learnt P laws page code)
show-routed-determined P laws page code whole κs a asked x y p q = ap (λ z. (x.0, (z, x.1.1))) (whole _ _ (p ∙ sym q))
