-- Every question has one of six outcomes, and its outcome says why: a refusal in its order, or the shards of a query.
-- Assumes nothing.
use Rattle.router.specs.declared.Shards.{Shards}
use Rattle.std.specs.Prelude.{None, Err, Result}
use Prim.Native.Nat.{ℕ, ◌+◌}
use native.Mathlib.Omega.{arith}
use mathlib.Core.Path.{◌≡◌, refl, sym, ap, ◌∙◌, subst}
use mathlib.Core.Logic.{⊎_elim}
use mathlib.Core.List.{List}
use mathlib.Core.Bool.{Bool, true, false, false≢true}
use borrow.Author.Tests.{ltb-true, ltb-false}
use lib.Dec.{ltb}
use lib.IntN.{ℤ, pos, nat_abs}
use Rattle.answers.specs.declared.Refusal.{Refusal}
use Rattle.answers.specs.Refusals.{no_such, broken_directory, out_of_bounds, past_day}
use Rattle.rates.specs.Rates.{is_rate}
use Rattle.rates.specs.Day.{day_frames}
use Rattle.timecodes.specs.declared.kinds.Kind.TheVariants.{Position}
use Rattle.reading.specs.For.{label_for}
use Rattle.reading.specs.Positions.{DayText}
use Rattle.reading.specs.LabelOnly.{LabelsOwn}
use Rattle.reading.proofs.LabelOnly.{label_position, label_or_own}
use Rattle.router.specs.Directory.{Rules, is_directory}
use Rattle.router.specs.Query.{is_length, range_from, range_at, range_of}
use Rattle.router.specs.Route.{asked_span, asked_in, route_of}
use Rattle.router.specs.RuleLaws.{rules-told, rules-pass}
use Rattle.router.specs.QueryLaws.{length-told, length-in, range-out, range-past, range-in}
use Rattle.router.specs.Statements.{Good, LengthOf, BadLength, Asks, PastDay, Query}

-- ---- the range, by the label and the length
module _ (rate : ℕ) (r : is_rate rate ≡ true) (z : ℤ) (text : List ℕ) where
  pub range-label : (e : Refusal) → label_for Position text rate ≡ Err e → range_of rate z text ≡ Err e
  unfolding range_of
  range-label e h = ap (range_from rate z) h

  pub range-start : (start : ℕ) → DayText text None rate start → range_of rate z text ≡ range_at rate z (pos start)
  unfolding range_of
  range-start start d = ap (range_from rate z) ((label_position text rate start r).1 d)

-- a length by its test
pub length-out : (z : ℤ) → ((n : ℕ) → ¬ LengthOf z n) → is_length z ≡ false
length-out z h = by (is_length z) refl
  where
    by : (t : Bool) → is_length z ≡ t → t ≡ false
    by true e = let k = length-told z e in absurd (h k.0 k.1)
    by false e = refl

pub out-length : (z : ℤ) → is_length z ≡ false → (n : ℕ) → ¬ LengthOf z n
out-length z e n k = false≢true (sym e ∙ ap is_length k.0 ∙ length-in n k.1)

pub length-held : (z : ℤ) (n : ℕ) → LengthOf z n → is_length z ≡ true
length-held z n k = ap is_length k.0 ∙ length-in n k.1

-- ---- what each condition gives
module _ (rate : ℕ) (firsts ends : List ℕ) (z : ℤ) (text : List ℕ) where
  pub route-no-rate : is_rate rate ≡ false → route_of rate firsts ends z text ≡ Err no_such
  unfolding route_of
  route-no-rate e = simp e

  pub route-broken : is_rate rate ≡ true → is_directory (day_frames rate) firsts ends ≡ false → route_of rate firsts ends z text ≡ Err broken_directory
  unfolding route_of
  route-broken r e = simp (r, e)

  pub route-good : Good rate firsts ends → route_of rate firsts ends z text ≡ asked_in firsts ends (range_of rate z text)
  unfolding route_of
  route-good g = simp (g.rated, rules-pass (day_frames rate) firsts ends g.rules)

  pub route-label : Good rate firsts ends → (e : Refusal) → label_for Position text rate ≡ Err e → route_of rate firsts ends z text ≡ Err e
  route-label g e h = route-good g ∙ ap (asked_in firsts ends) (range-label rate g.rated z text e h)

  pub route-length : BadLength rate firsts ends z text → route_of rate firsts ends z text ≡ Err out_of_bounds
  route-length b =
      let g = b.good in
      route-good g
      ∙ ap (asked_in firsts ends) (range-start rate g.rated z text b.start b.label ∙ range-out rate z (pos b.start) (length-out z b.outside))

  pub route-past : PastDay rate firsts ends z text → route_of rate firsts ends z text ≡ Err past_day
  route-past p =
      let a = p.asks in
      let g = a.good in
      let n : nat_abs z ≡ p.n = ap nat_abs a.of_length.0 in
      route-good g
      ∙ ap (asked_in firsts ends)
      (range-start rate g.rated z text p.start a.label
      ∙ range-past rate z (pos p.start) (length-held z p.n a.of_length) (omega (arith, n, p.past)))

  pub route-query : (start n : ℕ) → Query rate firsts ends z text start n → route_of rate firsts ends z text ≡ asked_span start (start + n) firsts ends
  route-query start n q =
      let a = q.asks in
      let g = a.good in
      let m : nat_abs z ≡ n = ap nat_abs a.of_length.0 in
      route-good g
      ∙ ap (asked_in firsts ends)
      (range-start rate g.rated z text start a.label
      ∙ range-in rate z (pos start) (length-held z n a.of_length) (omega (arith, m, q.within)))
      ∙ ap (λ (k : ℕ). asked_span start (start + k) firsts ends) m

-- ---- the outcome
pub data Outcome (rate : ℕ) (firsts ends : List ℕ) (z : ℤ) (text : List ℕ) : Result Shards Refusal → Type 0 where
  no_rate : is_rate rate ≡ false → Outcome rate firsts ends z text (Err no_such)
  broken : is_rate rate ≡ true → (¬ Rules (day_frames rate) firsts ends) → Outcome rate firsts ends z text (Err broken_directory)
  own : Good rate firsts ends → (e : Refusal) → LabelsOwn e → label_for Position text rate ≡ Err e → Outcome rate firsts ends z text (Err e)
  bad_length : BadLength rate firsts ends z text → Outcome rate firsts ends z text (Err out_of_bounds)
  past : PastDay rate firsts ends z text → Outcome rate firsts ends z text (Err past_day)
  asked : (start n : ℕ) → Query rate firsts ends z text start n → Outcome rate firsts ends z text (asked_span start (start + n) firsts ends)

module _ (rate : ℕ) (firsts ends : List ℕ) (z : ℤ) (text : List ℕ) where
  abbrev Of : Result Shards Refusal → Type 0
  Of r = Outcome rate firsts ends z text r

  by-day : (start n : ℕ) → Asks rate firsts ends z text start n → (t : Bool) → ltb (day_frames rate) (start + n) ≡ t → Of (route_of rate firsts ends z text)
  by-day start n a true e =
      let p : PastDay rate firsts ends z text = record { start = start; n = n; asks = a; past = ltb-true (day_frames rate) (start + n) e } in
      subst Of (sym (route-past rate firsts ends z text p)) (past p)
  by-day start n a false e =
      let q : Query rate firsts ends z text start n = record { asks = a; within = ltb-false (day_frames rate) (start + n) e } in
      subst Of (sym (route-query rate firsts ends z text start n q)) (asked start n q)

  by_length : Good rate firsts ends → (start : ℕ) → DayText text None rate start → (t : Bool) → is_length z ≡ t → Of (route_of rate firsts ends z text)
  by_length g start d true e =
      let k = length-told z e in
      by-day start k.0 (record { good = g; label = d; of_length = k.1 }) (ltb (day_frames rate) (start + k.0)) refl
  by_length g start d false e =
      let b : BadLength rate firsts ends z text = record { good = g; start = start; label = d; outside = out-length z e } in
      subst Of (sym (route-length rate firsts ends z text b)) (bad_length b)

  by-label : Good rate firsts ends → Of (route_of rate firsts ends z text)
  by-label g =
      ⊎_elim
      (λ x. by_length g x.0 ((label_position text rate x.0 g.rated).0 x.1) (is_length z) refl)
      (λ x. subst Of (sym (route-label rate firsts ends z text g x.0 x.1.0)) (own g x.0 x.1.1 x.1.0))
      (label_or_own text rate g.rated)

  by-rules : is_rate rate ≡ true → (t : Bool) → is_directory (day_frames rate) firsts ends ≡ t → Of (route_of rate firsts ends z text)
  by-rules r true e = by-label (record { rated = r; rules = rules-told (day_frames rate) firsts ends e })
  by-rules r false e =
      subst Of (sym (route-broken rate firsts ends z text r e))
      (broken r (λ k. false≢true (sym e ∙ rules-pass (day_frames rate) firsts ends k)))

  by-rate : (t : Bool) → is_rate rate ≡ t → Of (route_of rate firsts ends z text)
  by-rate true r = by-rules r (is_directory (day_frames rate) firsts ends) refl
  by-rate false r = subst Of (sym (route-no-rate rate firsts ends z text r)) (no_rate r)

  pub outcome : Of (route_of rate firsts ends z text)
  outcome = by-rate (is_rate rate) refl
