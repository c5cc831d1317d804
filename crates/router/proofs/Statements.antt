-- The statements of specs/Statements.antt.
-- Assumes nothing.
use Rattle.router.specs.declared.query.Frames.{Frames}
use Rattle.router.specs.Found.{shards, frames}
use Rattle.router.specs.declared.Shards.{Shards}
use Rattle.std.specs.Prelude.{None, Result, Ok, Err}
use Prim.Native.Nat.{ℕ, ◌+◌, ◌-◌, ◌≤◌, ◌<◌}
use native.Mathlib.Omega.{arith}
use mathlib.Core.Path.{◌≡◌, refl, sym, ap, ap₂, ◌∙◌, subst}
use mathlib.Core.Logic.{◌⊎◌, inl, inr, ⊎_elim, ◌↔◌}
use mathlib.Core.List.{List, []}
use mathlib.Core.Bool.{Bool, true, false, cond, false≢true}
use lib.Dec.{eqb, ltb}
use borrow.Author.Tests.{ltb-true, ltb-false}
use lib.IntN.{ℤ, pos, nat_abs}
use lib.ListN.{length, take}
use Rattle.answers.specs.declared.Refusal.{Refusal}
use Rattle.answers.specs.Causes.{refusal_number}
use Rattle.answers.specs.Causes.{refusal}
use Rattle.answers.specs.Refusals.{no_such}
use Rattle.answers.specs.Order.{judged}
use Rattle.answers.specs.OrderLaws.{judged-refused, judged-clear, unless-clear, not_in}
use Rattle.rates.specs.Rates.{is_rate}
use Rattle.rates.specs.Day.{day_frames}
use Rattle.timecodes.specs.declared.kinds.Kind.TheVariants.{Position}
use Rattle.reading.specs.For.{label_for}
use Rattle.reading.specs.Positions.{DayText}
use Rattle.reading.specs.LabelOnly.{LabelsOwn}
use Rattle.reading.proofs.LabelOnly.{label_no_rate, label_position, label_or_own}
use Rattle.router.specs.Directory.{Rules, is_directory, directory_when}
use Rattle.router.specs.Query.{is_length, range_from, range_of}
use Rattle.router.specs.Route.{first_asked, after_asked, asked_span, asked_in, route_of, number_of}
use Rattle.router.specs.Halving.{found_in}
use Rattle.router.specs.Tested.{kept_of, directory_of, routed_by, routed_in}
use Rattle.router.specs.RuleLaws.{rules-told, rules-pass}
use Rattle.router.specs.QueryLaws.{length-told, range-out, range-past, range-in}
use Rattle.router.proofs.HalvedSpan as halving
use Rattle.router.specs.TestedLaws.{kept_back}
use Rattle.router.specs.Statements.{RulesTested, DirectoryChecked, RefusedSix, RefusedSixteen, RefusedByLabel, RefusedFive, RefusedSeventeen, NumbersGiven}
use Rattle.router.specs.Statements.{Good, LengthOf, BadLength, PastDay, Query, Exactly}
use Rattle.router.specs.Statements.{RouteExactly, PrunedExactly, NothingAsked, EndFrame, RangeIs, RangeRefused, HalvesWalk, FoundByHalving, TestedOnce, VerdictKept}
use Rattle.router.proofs.Outcomes.{Outcome, no_rate, broken, own, bad_length, past, asked, outcome, route-no-rate, route-broken, route-good, route-label, route-length, route-past, route-query, range-label, range-start, length-held}
use Rattle.router.proofs.Exact.{span-exactly, exactly-one}

pub rules_tested : RulesTested
rules_tested day firsts ends = (rules-told day firsts ends, rules-pass day firsts ends)

-- ---- numbers that tell outcomes apart
-- shards are no refusal
span-number : (start end : ℕ) (firsts ends : List ℕ) → number_of (asked_span start end firsts ends) ≡ 0
unfolding asked_span
span-number start end firsts ends = by (eqb (after_asked start end firsts ends) 0)
  where
    by : (t : Bool) → number_of (cond t (shards 0 0) (shards (first_asked start end firsts ends) (after_asked start end firsts ends))) ≡ 0
    by true = refl
    by false = refl

abbrev kind_of : Result Shards Refusal → ℕ
kind_of (Ok shards) = 0
kind_of (Err e) = 1

span-kind : (start end : ℕ) (firsts ends : List ℕ) → kind_of (asked_span start end firsts ends) ≡ 0
unfolding asked_span
span-kind start end firsts ends = by (eqb (after_asked start end firsts ends) 0)
  where
    by : (t : Bool) → kind_of (cond t (shards 0 0) (shards (first_asked start end firsts ends) (after_asked start end firsts ends))) ≡ 0
    by true = refl
    by false = refl

-- the label's own are 1, 2, 14 and 3
own-not : (e : Refusal) (n : ℕ) → LabelsOwn e → refusal_number e ≡ n → 3 < n → ¬ (n ≡ 14) → ⊥
own-not e n (inl a) k h m = omega (arith, a, k, h)
own-not e n (inr (inl a)) k h m = omega (arith, a, k, h)
own-not e n (inr (inr (inl a))) k h m = m (sym k ∙ a)
own-not e n (inr (inr (inr a))) k h m = omega (arith, a, k, h)

own-some : (e : Refusal) → LabelsOwn e → 0 < (refusal_number e)
own-some e (inl a) = omega (arith, a)
own-some e (inr (inl a)) = omega (arith, a)
own-some e (inr (inr (inl a))) = omega (arith, a)
own-some e (inr (inr (inr a))) = omega (arith, a)

-- ---- what an outcome tells
module _ (rate : ℕ) (firsts ends : List ℕ) (z : ℤ) (text : List ℕ) where
  abbrev Of : Result Shards Refusal → Type 0
  Of r = Outcome rate firsts ends z text r

  six : (r : Result Shards Refusal) → Of r → number_of r ≡ 6 → is_rate rate ≡ false
  six r (no_rate h) k = h
  six r (broken h b) k = absurd (omega (arith, k))
  six r (own g e o h) k = absurd (own-not e 6 o k (omega arith) (λ m. omega (arith, m)))
  six r (bad_length b) k = absurd (omega (arith, k))
  six r (past p) k = absurd (omega (arith, k))
  six r (asked start n q) k = let m = sym (span-number start (start + n) firsts ends) ∙ k in absurd (omega (arith, m))

  sixteen : (r : Result Shards Refusal) → Of r → number_of r ≡ 16 → (is_rate rate ≡ true) × (¬ Rules (day_frames rate) firsts ends)
  sixteen r (no_rate h) k = absurd (omega (arith, k))
  sixteen r (broken h b) k = (h, b)
  sixteen r (own g e o h) k = absurd (own-not e 16 o k (omega arith) (λ m. omega (arith, m)))
  sixteen r (bad_length b) k = absurd (omega (arith, k))
  sixteen r (past p) k = absurd (omega (arith, k))
  sixteen r (asked start n q) k = let m = sym (span-number start (start + n) firsts ends) ∙ k in absurd (omega (arith, m))

  five : (r : Result Shards Refusal) → Of r → number_of r ≡ 5 → BadLength rate firsts ends z text
  five r (no_rate h) k = absurd (omega (arith, k))
  five r (broken h b) k = absurd (omega (arith, k))
  five r (own g e o h) k = absurd (own-not e 5 o k (omega arith) (λ m. omega (arith, m)))
  five r (bad_length b) k = b
  five r (past p) k = absurd (omega (arith, k))
  five r (asked start n q) k = let m = sym (span-number start (start + n) firsts ends) ∙ k in absurd (omega (arith, m))

  seventeen : (r : Result Shards Refusal) → Of r → number_of r ≡ 17 → PastDay rate firsts ends z text
  seventeen r (no_rate h) k = absurd (omega (arith, k))
  seventeen r (broken h b) k = absurd (omega (arith, k))
  seventeen r (own g e o h) k = absurd (own-not e 17 o k (omega arith) (λ m. omega (arith, m)))
  seventeen r (bad_length b) k = absurd (omega (arith, k))
  seventeen r (past p) k = p
  seventeen r (asked start n q) k = let m = sym (span-number start (start + n) firsts ends) ∙ k in absurd (omega (arith, m))

  -- the refusal that a label has
  abbrev refusal-in : Refusal → Result Shards Refusal → Refusal
  refusal-in other (Ok shards) = other
  refusal-in other (Err e) = e

  by-label : (r : Result Shards Refusal) → Of r → (e : Refusal) → LabelsOwn e → r ≡ Err e → Good rate firsts ends × (label_for Position text rate ≡ Err e)
  by-label r (no_rate h) e o k = absurd (own-not e 6 o (sym (ap number_of k)) (omega arith) (λ m. omega (arith, m)))
  by-label r (broken h b) e o k = absurd (own-not e 16 o (sym (ap number_of k)) (omega arith) (λ m. omega (arith, m)))
  by-label r (own g f p h) e o k = (g, h ∙ ap Err (ap (refusal-in f) k))
  by-label r (bad_length b) e o k = absurd (own-not e 5 o (sym (ap number_of k)) (omega arith) (λ m. omega (arith, m)))
  by-label r (past p) e o k = absurd (own-not e 17 o (sym (ap number_of k)) (omega arith) (λ m. omega (arith, m)))
  by-label r (asked start n q) e o k =
      let m = sym (span-number start (start + n) firsts ends) ∙ ap number_of k in absurd (omega (arith, m, own-some e o))

  -- the query of shards
  pub record Queried (r : Result Shards Refusal) : Type 0 where
    pub start : ℕ
    pub n : ℕ
    pub query : Query rate firsts ends z text start n
    pub is : asked_span start (start + n) firsts ends ≡ r

  shards-of : (r : Result Shards Refusal) → Of r → number_of r ≡ 0 → Queried r
  shards-of r (no_rate h) k = absurd (omega (arith, k))
  shards-of r (broken h b) k = absurd (omega (arith, k))
  shards-of r (own g e o h) k = absurd (omega (arith, k, own-some e o))
  shards-of r (bad_length b) k = absurd (omega (arith, k))
  shards-of r (past p) k = absurd (omega (arith, k))
  shards-of r (asked start n q) k = record { start = start; n = n; query = q; is = refl }

  numbers : (r : Result Shards Refusal) → Of r → (e : Refusal) → r ≡ Err e
      → LabelsOwn e ⊎ ((e ≡ refusal 6) ⊎ ((e ≡ refusal 16) ⊎ ((e ≡ refusal 5) ⊎ (e ≡ refusal 17))))
  numbers r (no_rate h) e k = inr (inl (sym (ap (refusal-in e) k)))
  numbers r (broken h b) e k = inr (inr (inl (sym (ap (refusal-in e) k))))
  numbers r (own g f o h) e k = inl (subst LabelsOwn (ap (refusal-in e) k) o)
  numbers r (bad_length b) e k = inr (inr (inr (inl (sym (ap (refusal-in e) k)))))
  numbers r (past p) e k = inr (inr (inr (inr (sym (ap (refusal-in e) k)))))
  numbers r (asked start n q) e k = let m = sym (span-kind start (start + n) firsts ends) ∙ ap kind_of k in absurd (omega (arith, m))

  -- what the shards of a query are
  exact-for : (start n first after : ℕ) → Query rate firsts ends z text start n → route_of rate firsts ends z text ≡ shards first after
      → Exactly firsts ends start (start + n) first after
  exact-for start n first after q e =
      span-exactly (day_frames rate) firsts ends start (start + n) q.asks.good.rules first after
      (sym (route-query rate firsts ends z text start n q) ∙ e)

-- ---- the test of a directory
-- by its two tests
data Tested (rate : ℕ) (firsts ends : List ℕ) : Result (Unit {0}) Refusal → Type 0 where
  none_such : is_rate rate ≡ false → Tested rate firsts ends (Err (refusal 6))
  breaks : is_rate rate ≡ true → (¬ Rules (day_frames rate) firsts ends) → Tested rate firsts ends (Err (refusal 16))
  keeps : Good rate firsts ends → Tested rate firsts ends (Ok tt)

abbrev verdict_number : Result (Unit {0}) Refusal → ℕ
verdict_number (Ok tt) = 0
verdict_number (Err e) = refusal_number e

module _ (rate : ℕ) (firsts ends : List ℕ) where
  abbrev given : Result (Unit {0}) Refusal
  given = judged (directory_when rate firsts ends)

  given-six : is_rate rate ≡ false → given ≡ Err (refusal 6)
  given-six e = simp e

  given-sixteen : is_rate rate ≡ true → is_directory (day_frames rate) firsts ends ≡ false → given ≡ Err (refusal 16)
  given-sixteen r e = simp (r, e)

  given-passed : is_rate rate ≡ true → is_directory (day_frames rate) firsts ends ≡ true → given ≡ (Ok tt)
  given-passed r e = simp (r, e)

  by-test : is_rate rate ≡ true → (t : Bool) → is_directory (day_frames rate) firsts ends ≡ t → Tested rate firsts ends given
  by-test r true e =
      subst (Tested rate firsts ends) (sym (given-passed r e)) (keeps (record { rated = r; rules = rules-told (day_frames rate) firsts ends e }))
  by-test r false e =
      subst (Tested rate firsts ends) (sym (given-sixteen r e)) (breaks r (λ k. false≢true (sym e ∙ rules-pass (day_frames rate) firsts ends k)))

  by-rate : (t : Bool) → is_rate rate ≡ t → Tested rate firsts ends given
  by-rate true r = by-test r (is_directory (day_frames rate) firsts ends) refl
  by-rate false r = subst (Tested rate firsts ends) (sym (given-six r)) (none_such r)

  told-passed : (v : Result (Unit {0}) Refusal) → Tested rate firsts ends v → verdict_number v ≡ 0 → Good rate firsts ends
  told-passed v (none_such h) k = absurd (omega (arith, k))
  told-passed v (breaks h b) k = absurd (omega (arith, k))
  told-passed v (keeps g) k = g

  told-six : (v : Result (Unit {0}) Refusal) → Tested rate firsts ends v → verdict_number v ≡ 6 → is_rate rate ≡ false
  told-six v (none_such h) k = h
  told-six v (breaks h b) k = absurd (omega (arith, k))
  told-six v (keeps g) k = absurd (omega (arith, k))

  told-sixteen : (v : Result (Unit {0}) Refusal) → Tested rate firsts ends v → verdict_number v ≡ 16 → (is_rate rate ≡ true) × (¬ Rules (day_frames rate) firsts ends)
  told-sixteen v (none_such h) k = absurd (omega (arith, k))
  told-sixteen v (breaks h b) k = (h, b)
  told-sixteen v (keeps g) k = absurd (omega (arith, k))

-- what breaks a rule fails the test
fails-test : (day : ℕ) (firsts ends : List ℕ) → (¬ Rules day firsts ends) → is_directory day firsts ends ≡ false
fails-test day firsts ends b = by (is_directory day firsts ends) refl
  where
    by : (t : Bool) → is_directory day firsts ends ≡ t → t ≡ false
    by true e = absurd (b (rules-told day firsts ends e))
    by false e = refl

pub directory_checked : DirectoryChecked
directory_checked = record {
  passed = λ rate firsts ends. (
    λ e. told-passed rate firsts ends _ (by-rate rate firsts ends (is_rate rate) refl) (ap verdict_number e),
    λ g. given-passed rate firsts ends g.rated (rules-pass (day_frames rate) firsts ends g.rules),
  );
  six = λ rate firsts ends. (
    λ e. told-six rate firsts ends _ (by-rate rate firsts ends (is_rate rate) refl) (ap verdict_number e),
    λ h. given-six rate firsts ends h,
  );
  sixteen = λ rate firsts ends. (
    λ e. told-sixteen rate firsts ends _ (by-rate rate firsts ends (is_rate rate) refl) (ap verdict_number e),
    λ h. given-sixteen rate firsts ends h.0 (fails-test (day_frames rate) firsts ends h.1),
  );
}

-- ---- the refusals
pub refused-six : RefusedSix
refused-six rate firsts ends z text = (
  λ e. six rate firsts ends z text _ (outcome rate firsts ends z text) (ap number_of e),
  λ h. route-no-rate rate firsts ends z text h,
)

pub refused-sixteen : RefusedSixteen
refused-sixteen rate firsts ends z text = (
  λ e. sixteen rate firsts ends z text _ (outcome rate firsts ends z text) (ap number_of e),
  λ h. route-broken rate firsts ends z text h.0 (fails-test (day_frames rate) firsts ends h.1),
)

pub refused-by-label : RefusedByLabel
refused-by-label rate firsts ends z text e o = (
  λ k. by-label rate firsts ends z text _ (outcome rate firsts ends z text) e o k,
  λ h. route-label rate firsts ends z text h.0 e h.1,
)

pub refused-five : RefusedFive
refused-five rate firsts ends z text = (
  λ e. five rate firsts ends z text _ (outcome rate firsts ends z text) (ap number_of e),
  λ b. route-length rate firsts ends z text b,
)

pub refused-seventeen : RefusedSeventeen
refused-seventeen rate firsts ends z text = (
  λ e. seventeen rate firsts ends z text _ (outcome rate firsts ends z text) (ap number_of e),
  λ p. route-past rate firsts ends z text p,
)

pub numbers_given : NumbersGiven
numbers_given rate firsts ends z text e k = numbers rate firsts ends z text _ (outcome rate firsts ends z text) e k

-- ---- the shards
pub route_exactly : RouteExactly
route_exactly rate firsts ends z text first after = (
  λ e.
      let s = shards-of rate firsts ends z text _ (outcome rate firsts ends z text) (ap number_of e) in (
        s.start,
        (
          s.n,
          (
            s.query,
            span-exactly (day_frames rate) firsts ends s.start (s.start + s.n) s.query.asks.good.rules first after (s.is ∙ e),
          ),
        ),
      ),
  λ x.
      let q = x.1.1.0 in
      route-query rate firsts ends z text x.0 x.1.0 q
      ∙ exactly-one (day_frames rate) firsts ends x.0 (x.0 + x.1.0) q.asks.good.rules first after x.1.1.1,
)

pub pruned_exactly : PrunedExactly
pruned_exactly rate firsts ends z text start n first after q e i h =
    let x = exact-for rate firsts ends z text start n first after q e in
    (λ out frame c. out ((x.asked i h).1 (frame, c)), λ never b. let c = (x.asked i h).0 b in never c.0 c.1)

pub nothing_asked : NothingAsked
nothing_asked rate firsts ends text start q =
    route-query rate firsts ends (pos 0) text start 0 q
    ∙ exactly-one (day_frames rate) firsts ends start (start + 0) q.asks.good.rules 0 0
    (record {
      inside = omega arith;
      asked = λ i h. (λ b. absurd (omega (arith, b.1)), λ c. absurd (omega (arith, c.1.range.from, c.1.range.before)));
      none = λ h. (refl, refl);
    })

pub end_frame : EndFrame
end_frame rate firsts ends z text start n first after q e i h =
    let x = exact-for rate firsts ends z text start n first after q e in (
      λ begins b. let c = (x.asked i h).0 b in omega (arith, begins, c.1.shard.from, c.1.range.before),
      λ some last. (x.asked i h).1 (start + n - 1, record { shard = last; range = record { from = omega arith; before = omega arith } }),
    )

-- ---- the range
abbrev start_in : Result Frames Refusal → ℕ
start_in (Ok frames) = frames.start
start_in (Err e) = 0

abbrev end_in : Result Frames Refusal → ℕ
end_in (Ok frames) = frames.end
end_in (Err e) = 0

abbrev is_range : Result Frames Refusal → ℕ
is_range (Ok frames) = 1
is_range (Err e) = 0

abbrev Ranges : (rate : ℕ) (z : ℤ) (text : List ℕ) (start end : ℕ) → Type 0
Ranges rate z text start end = DayText text None rate start × ((n : ℕ) × (LengthOf z n × ((end ≡ start + n) × (end ≤ day_frames rate))))

module _ (rate : ℕ) (z : ℤ) (text : List ℕ) (start end : ℕ) (r : is_rate rate ≡ true) (e : range_of rate z text ≡ frames start end) where
  range-by-day : (k n : ℕ) → DayText text None rate k → LengthOf z n → (t : Bool) → ltb (day_frames rate) (k + n) ≡ t → Ranges rate z text start end
  range-by-day k n d l true f =
      let m : nat_abs z ≡ n = ap nat_abs l.0 in
      let h = range-start rate r z text k d ∙ range-past rate z (pos k) (length-held z n l) (omega (arith, m, ltb-true (day_frames rate) (k + n) f)) in
      let x = sym (ap is_range h) ∙ ap is_range e in
      absurd (omega (arith, x))
  range-by-day k n d l false f =
      let m : nat_abs z ≡ n = ap nat_abs l.0 in
      let u = ltb-false (day_frames rate) (k + n) f in
      let h = range-start rate r z text k d ∙ range-in rate z (pos k) (length-held z n l) (omega (arith, m, u)) in
      let a : k ≡ start = sym (ap start_in h) ∙ ap start_in e in
      let b : k + nat_abs z ≡ end = sym (ap end_in h) ∙ ap end_in e in
      (subst (λ (j : ℕ). DayText text None rate j) a d, (n, (l, (omega (arith, a, b, m), omega (arith, b, m, u)))))

  range-by-length : (k : ℕ) → DayText text None rate k → (t : Bool) → is_length z ≡ t → Ranges rate z text start end
  range-by-length k d true f = let l = length-told z f in range-by-day k l.0 d l.1 (ltb (day_frames rate) (k + l.0)) refl
  range-by-length k d false f =
      let h = range-start rate r z text k d ∙ range-out rate z (pos k) f in
      let x = sym (ap is_range h) ∙ ap is_range e in
      absurd (omega (arith, x))

  range-told : Ranges rate z text start end
  range-told =
      ⊎_elim
      (λ x. range-by-length x.0 ((label_position text rate x.0 r).0 x.1) (is_length z) refl)
      (λ x. let k = sym (ap is_range (range-label rate r z text x.0 x.1.0)) ∙ ap is_range e in absurd (omega (arith, k)))
      (label_or_own text rate r)

pub range_is : RangeIs
range_is rate z text start end r = (
  λ e. range-told rate z text start end r e,
  λ x.
      let n = x.1.0 in
      let l = x.1.1.0 in
      let m : nat_abs z ≡ n = ap nat_abs l.0 in
      let b : start + nat_abs z ≡ end = omega (arith, m, x.1.1.1.0) in
      range-start rate r z text start x.0
      ∙ range-in rate z (pos start) (length-held z n l) (omega (arith, b, x.1.1.1.1))
      ∙ ap (frames start) b,
)

-- ---- what a range is refused
-- no shards break no rule
no-shards : (day : ℕ) → Rules day [] []
no-shards day = record {
  paired = refl;
  few = omega arith;
  some = λ i h. absurd (omega arith);
  apart = λ i j h k. absurd (omega arith);
  within = λ i h. absurd (omega arith);
}

abbrev range_refusal : Refusal → Result Frames Refusal → Refusal
range_refusal other (Ok frames) = other
range_refusal other (Err e) = e

-- through a directory without shards a range is refused what it is refused
asked-refused : (e : Refusal) (x : Result Frames Refusal) → asked_in [] [] x ≡ Err e → x ≡ Err e
asked-refused e (Ok frames) k = let m = sym (span-kind frames.start frames.end [] []) ∙ ap kind_of k in absurd (omega (arith, m))
asked-refused e (Err f) k = let same : f ≡ e = cc in ap Err same

range-no-rate : (rate : ℕ) (z : ℤ) (text : List ℕ) → is_rate rate ≡ false → range_of rate z text ≡ Err no_such
unfolding range_of
range-no-rate rate z text r = ap (range_from rate z) (label_no_rate Position text rate r)

pub range_refused : RangeRefused
range_refused rate z text e = by (is_rate rate) refl
  where
    by : (t : Bool) → is_rate rate ≡ t → (range_of rate z text ≡ Err e) ↔ (route_of rate [] [] z text ≡ Err e)
    by true r =
        let good : Good rate [] [] = record { rated = r; rules = no-shards (day_frames rate) } in
        let same = route-good rate [] [] z text good in
        (λ h. same ∙ ap (asked_in [] []) h, λ h. asked-refused e (range_of rate z text) (sym same ∙ h))
    by false r =
        let a = range-no-rate rate z text r in
        let b = route-no-rate rate [] [] z text r in
        (λ h. b ∙ ap Err (ap (range_refusal e) (sym a ∙ h)), λ h. a ∙ ap Err (ap (refusal-in rate [] [] z text e) (sym b ∙ h)))

-- ---- how they are found
pub halves_walk : HalvesWalk
halves_walk day firsts ends start end r = halving.halves_walk day start end firsts ends r

pub found_by_halving : FoundByHalving
found_by_halving rate firsts ends z text g =
    halving.found-asked (day_frames rate) firsts ends g.rules (range_of rate z text) ∙ sym (route-good rate firsts ends z text g)

pub tested_once : TestedOnce
unfolding routed_in directory_of route_of
tested_once rate firsts ends z text = by (judged (directory_when rate firsts ends)) refl
  where
    by : (v : Result (Unit {0}) Refusal) → judged (directory_when rate firsts ends) ≡ v → routed_by (directory_of rate firsts ends) z text v ≡ route_of rate firsts ends z text
    by (Ok tt) e =
        let clear = judged-clear (directory_when rate firsts ends) e in
        let rules = rules-told (day_frames rate) firsts ends (not_in _ clear.1.0) in
        let a = kept_back firsts rules.few in
        let b : take (length firsts) (kept_of ends) ≡ ends =
        ap (λ (k : ℕ). take k (kept_of ends)) rules.paired ∙ kept_back ends (omega (arith, rules.few, rules.paired)) in
        ap₂ (λ x y. found_in x y (range_of rate z text)) a b
        ∙ halving.found-asked (day_frames rate) firsts ends rules (range_of rate z text)
        ∙ sym (unless-clear Err (directory_when rate firsts ends) (asked_in firsts ends (range_of rate z text)) clear)
    by (Err e) h = sym (judged-refused (directory_when rate firsts ends) e h Err (asked_in firsts ends (range_of rate z text)))

pub verdict_kept : VerdictKept
unfolding directory_of
verdict_kept rate firsts ends = refl
