-- The statements of specs/Statements.antt.
-- Assumes nothing.
use Rattle.std.specs.Prelude.{Option, Result, Ok, Err}
use Prim.Native.Nat.{ℕ}
use native.Mathlib.Omega.{arith}
use mathlib.Core.Path.{◌≡◌, refl, sym, ap, ◌∙◌, subst}
use mathlib.Core.Bool.{Bool, true, false, not, cond}
use mathlib.Core.List.{List}
use lib.ListN.{length}
use Rattle.lent.specs.Line.{fits, splice}
use Rattle.answers.specs.declared.Refusal.{Refusal}
use Rattle.answers.specs.Refusals.{no_room}
use Rattle.timecodes.specs.declared.kinds.Kind.{Kind}
use Rattle.written.specs.Written.{Text, answer_to}
use Rattle.written.proofs.Statements.{length_stands, refused_keeps, no_room_exactly}
use Rattle.reading.specs.declared.Read.{Read}
use Rattle.reading.specs.Answer.{number_of, place_of}
use Rattle.reading.specs.For.{read_for}
use Rattle.reasons.specs.declared.Fact.{Fact}
use Rattle.reasons.specs.declared.Reason.{Reason}
use Rattle.reasons.specs.Why.{fact_of, phrase_for, told_as, why_of}
use Rattle.reasons.specs.Holds.{FactHolds}
use Rattle.reasons.specs.Statements.{ReadersOwn, FactTold, OneFact, FactFits, PhraseTold, WhyRefused, WhyKeeps}
use Rattle.rates.specs.Rates.{is_rate}
use Rattle.reading.specs.Shaped.{shape_of}
use Rattle.reading.specs.ForLaws.{for-no-rate}
use Rattle.reasons.specs.Facts.{fact_by}
use Rattle.reasons.proofs.Holds.{nothing-by, number-holds}
use Rattle.reasons.proofs.Fits.{SmallFact, fact_small}
use Rattle.reasons.proofs.One.{same-fact}

-- what stands in an answer, by its parts
read_in : Result Read Refusal → Result Reason Refusal → Result Read Refusal
read_in other (Ok r) = r.read
read_in other (Err e) = other

fact_in : Option Fact → Result Reason Refusal → Option Fact
fact_in other (Ok r) = r.fact
fact_in other (Err e) = other

length_in : Result Reason Refusal → ℕ
length_in (Ok r) = r.length
length_in (Err e) = 0

-- what is told is what the parts say, and the phrase was written
record Parts (read : Result Read Refusal) (fact : Option Fact) (w : Result ℕ Refusal) (r : Reason) : Type 0 where
  read_is : r.read ≡ read
  fact_is : r.fact ≡ fact
  written_is : w ≡ Ok r.length

parts : (read : Result Read Refusal) (fact : Option Fact) (w : Result ℕ Refusal) (r : Reason) → told_as read fact w ≡ Ok r → Parts read fact w r
unfolding read_in fact_in length_in
parts read fact (Ok n) r e =
    record { read_is = sym (ap (read_in read) e); fact_is = sym (ap (fact_in fact) e); written_is = ap Ok (ap length_in e) }
parts read fact (Err x) r e = let z : ◌≡◌ {A = ℕ} 0 1 = cc in absurd (omega arith)

module _ (kind : Kind) (l : List ℕ) (stated : Option ℕ) (rate : ℕ) (line : List ℕ) (place : ℕ) where
  abbrev answer : Result ℕ Refusal
  answer = answer_to line place (Text (phrase_for kind l stated rate))

  told-parts : (r : Reason) → why_of kind l stated rate line place ≡ Ok r → Parts (read_for kind l stated rate) (fact_of kind l stated rate) answer r
  unfolding why_of
  told-parts r e = parts (read_for kind l stated rate) (fact_of kind l stated rate) answer r e

  -- refused as the phrase's writer is
  refused-by : (w : Result ℕ Refusal) (e : Refusal) → told_as (read_for kind l stated rate) (fact_of kind l stated rate) w ≡ Err e → w ≡ Err e
  refused-by (Ok n) e h = let z : ◌≡◌ {A = ℕ} 0 1 = cc in absurd (omega arith)
  refused-by (Err x) e h = let same : x ≡ e = cc in ap Err same

  refused-answer : (e : Refusal) → why_of kind l stated rate line place ≡ Err e → answer ≡ Err e
  unfolding why_of
  refused-answer e h = refused-by answer e h

  answer-refused : (e : Refusal) → answer ≡ Err e → why_of kind l stated rate line place ≡ Err e
  unfolding why_of
  answer-refused e h = ap (told_as (read_for kind l stated rate) (fact_of kind l stated rate)) h

pub readers_own : ReadersOwn
readers_own kind l stated rate line place r e =
    let same = (told-parts kind l stated rate line place r e).read_is in (same, (ap number_of same, ap place_of same))

pub fact_told : FactTold
unfolding fact_of
fact_told kind l stated rate line place r e =
    subst (FactHolds l stated rate (number_of (read_for kind l stated rate))) (sym (told-parts kind l stated rate line place r e).fact_is)
    (number-holds l stated rate kind)

pub one_fact : OneFact
one_fact kind l stated rate line place r f e h =
    same-fact l stated rate (number_of (read_for kind l stated rate)) f r.fact h (fact_told kind l stated rate line place r e)

-- at a rate by what was scanned; else 6 shows nothing
small-fact : (kind : Kind) (l : List ℕ) (stated : Option ℕ) (rate : ℕ) → SmallFact (fact_of kind l stated rate)
unfolding fact_of
small-fact kind l stated rate = by (is_rate rate) refl
  where
    by : (t : Bool) → is_rate rate ≡ t → SmallFact (fact_by (number_of (read_for kind l stated rate)) rate stated (shape_of stated l))
    by true e = fact_small (number_of (read_for kind l stated rate)) rate stated l e
    by false e =
        let six = ap number_of (for-no-rate kind l stated rate e) in
        subst SmallFact
        (sym (nothing-by (number_of (read_for kind l stated rate)) rate stated (shape_of stated l) (λ x. omega (arith, six, x)) (λ x. omega (arith, six, x))
        (λ x. omega (arith, six, x)) (λ x. omega (arith, six, x))))
        tt

pub fact_fits : FactFits
fact_fits kind l stated rate line place r f e g =
    subst SmallFact (sym (told-parts kind l stated rate line place r e).fact_is ∙ g) (small-fact kind l stated rate)

pub phrase_told : PhraseTold
phrase_told kind l stated rate line place r e =
    let s = length_stands line place (Text (phrase_for kind l stated rate)) r.length (told-parts kind l stated rate line place r e).written_is in
    let same : s.text ≡ phrase_for kind l stated rate = cc in
    (s.long ∙ ap length same, s.there ∙ ap (splice line place) same)

-- a text is refused for want of room alone
only-room : (line : List ℕ) (place : ℕ) (text : List ℕ) (e : Refusal) → answer_to line place (Text text) ≡ Err e → e ≡ no_room
unfolding answer_to
only-room line place text e k = by (fits line place text) k
  where
    by : (t : Bool) → cond (not t) (Err no_room) (Ok (length text)) ≡ Err e → e ≡ no_room
    by true h = let z : ◌≡◌ {A = ℕ} 0 1 = cc in absurd (omega arith)
    by false h = cc

pub why_refused : WhyRefused
why_refused kind l stated rate line place e = (
  λ h.
      let k = refused-answer kind l stated rate line place e h in
      let is = only-room line place (phrase_for kind l stated rate) e k in
      (is, (no_room_exactly line place (phrase_for kind l stated rate)).0 (k ∙ ap Err is)),
  λ h.
      answer-refused kind l stated rate line place e
      ((no_room_exactly line place (phrase_for kind l stated rate)).1 h.1 ∙ ap Err (sym h.0)),
)

pub why_keeps : WhyKeeps
why_keeps kind l stated rate line place e h =
    refused_keeps line place (Text (phrase_for kind l stated rate)) e (refused-answer kind l stated rate line place e h)
