-- The shards that halving finds are those that walking finds (BEHAVIOUR: Router).
-- Assumes nothing.
use Rattle.answers.specs.declared.Refusal.{Refusal}
use Rattle.router.specs.declared.query.Frames.{Frames}
use Rattle.router.specs.Found.{shards}
use Rattle.std.specs.Prelude.{ℕ, ◌+◌, ◌≤◌, ◌<◌, max, min, ◌≡◌, List, Bool, length, get_or, Err, Ok, Result}
use Rattle.std.proofs.Math.Path.{refl, sym}
use Rattle.std.proofs.Common.{arith}
use Rattle.std.proofs.Math.Bool.{true, false, cond}
use borrow.Author.Tests.{lt-ltb, ltb-true, ltb-false, leb-true, leb-false}
use Rattle.std.proofs.Math.Dec.{leb, ltb}
use Rattle.router.specs.Directory.{Rules}
use Rattle.router.specs.Route.{asked_span, asked_in}
use Rattle.router.specs.Halving.{halved, halved_span, found_in}
use Rattle.router.specs.RuleLaws.{firsts-rise, ends-rise}
use Rattle.router.specs.AskedLaws.{Asked}
use Rattle.router.proofs.AskedSpan.{span_none, span-is}
use Rattle.router.specs.HalvingLaws.{Parted, halved-parts}

-- ---- the shards that halving finds are those that are asked
module _ (day start end : ℕ) (firsts ends : List ℕ) (r : Rules day firsts ends) where
  abbrev pub lo : ℕ
  lo = halved (start + 1) ends

  abbrev pub hi : ℕ
  hi = halved end firsts

  abbrev pub low : Parted (start + 1) ends lo
  low = halved-parts (start + 1) ends (ends-rise day firsts ends r)

  abbrev pub high : Parted end firsts hi
  high = halved-parts end firsts (firsts-rise day firsts ends r)

  -- one that is asked ends behind the start, and begins before the end
  pub from-lo : (i : ℕ) → i < length firsts → Asked start end firsts ends i → lo ≤ i
  from-lo i h a = by (ltb i lo) refl
    where
      by : (t : Bool) → ltb i lo ≡ t → lo ≤ i
      by true e =
          let m = ltb-true (max (get_or firsts i 0) start) (min (get_or ends i 0) end) a in
          absurd (omega (arith, m, low.front i (ltb-true i lo e)))
      by false e = ltb-false i lo e

  pub under-hi : (i : ℕ) → i < length firsts → Asked start end firsts ends i → i < hi
  under-hi i h a = by (ltb i hi) refl
    where
      by : (t : Bool) → ltb i hi ≡ t → i < hi
      by true e = ltb-true i hi e
      by false e =
          let m = ltb-true (max (get_or firsts i 0) start) (min (get_or ends i 0) end) a in
          absurd (omega (arith, m, high.back i (ltb-false i hi e) h))

  -- and one between them is asked
  pub between : start < end → (i : ℕ) → lo ≤ i → i < hi → Asked start end firsts ends i
  between s i p q =
      let n : i < length firsts = omega (arith, high.inside) in
      let f = high.front i q in
      let e = low.back i p (omega (arith, r.paired)) in
      let k = r.some i n in
      lt-ltb (max (get_or firsts i 0) start) (min (get_or ends i 0) end) (omega (arith, f, e, k, s))

  pub halves_walk : halved_span start end firsts ends ≡ asked_span start end firsts ends
  unfolding halved_span
  halves_walk = by (leb end start) (ltb lo hi) refl refl
    where
      by : (s t : Bool) → leb end start ≡ s → ltb lo hi ≡ t
          → cond s (shards 0 0) (cond t (shards lo hi) (shards 0 0)) ≡ asked_span start end firsts ends
      by true t e f =
          sym (span_none start end firsts ends r.paired (λ i h a.
          let m = ltb-true (max (get_or firsts i 0) start) (min (get_or ends i 0) end) a in omega (arith, m, leb-true end start e)))
      by false true e f =
          sym (span-is start end firsts ends lo hi r.paired (ltb-true lo hi f) high.inside (between (leb-false end start e)) (λ i h a. (from-lo i h a, under-hi i h a)))
      by false false e f =
          sym (span_none start end firsts ends r.paired (λ i h a. omega (arith, from-lo i h a, under-hi i h a, ltb-false lo hi f)))

-- so of any range
pub found-asked : (day : ℕ) (firsts ends : List ℕ) → Rules day firsts ends → (x : Result Frames Refusal) → found_in firsts ends x ≡ asked_in firsts ends x
found-asked day firsts ends r (Ok frames) = halves_walk day frames.start frames.end firsts ends r
found-asked day firsts ends r (Err e) = refl
