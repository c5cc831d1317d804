-- The shards that are asked are exactly those that have a frame in common with the range, and only one answer says so.
-- Assumes nothing.
use Rattle.router.specs.Found.{shards}
use Prim.Native.Nat.{ℕ, ◌≤◌, ◌<◌, max, min}
use native.Mathlib.Omega.{arith}
use mathlib.Core.Path.{◌≡◌, refl, sym, ap, ◌∙◌, subst}
use mathlib.Core.List.{List}
use mathlib.Core.Bool.{Bool, true, false}
use borrow.Author.Tests.{ltb-true, ltb-false, leb-true, leb-false}
use lib.Dec.{leb, ltb}
use lib.ListN.{length, get_or}
use Rattle.router.specs.Directory.{Rules}
use Rattle.router.specs.Route.{Common, asked_span, first_of, after_of}
use Rattle.router.specs.AskedLaws.{Asked, common-asked}
use Rattle.router.proofs.AskedSpan.{asked-common, span_none, span-is}
use Rattle.router.proofs.HalvedSpan.{lo, hi, high, from-lo, under-hi, between}
use Rattle.router.specs.Statements.{Exactly, Together}

module _ (day : ℕ) (firsts ends : List ℕ) (start end : ℕ) (r : Rules day firsts ends) where
  -- none is asked
  exactly-none : ((i : ℕ) → i < length firsts → Asked start end firsts ends i → ⊥) → Exactly firsts ends start end 0 0
  exactly-none never =
      record {
        inside = omega arith;
        asked = λ i h. (λ b. absurd (omega (arith, b.1)), λ c. absurd (never i h (common-asked start end firsts ends i c.0 c.1)));
        none = λ h. (refl, refl);
      }

  -- those from lo up to hi are asked
  exactly-span : (p q : ℕ) → p < q → q ≤ length firsts → ((i : ℕ) → p ≤ i → i < q → Asked start end firsts ends i)
      → ((i : ℕ) → i < length firsts → Asked start end firsts ends i → (p ≤ i) × (i < q)) → Exactly firsts ends start end p q
  exactly-span p q s h all only =
      record {
        inside = h;
        asked = λ i k. (λ b. asked-common start end firsts ends i (all i b.0 b.1), λ c. only i k (common-asked start end firsts ends i c.0 c.1));
        none = λ k. absurd (omega (arith, k, s));
      }

  -- what is answered is so
  pub record Answered : Type 0 where
    pub first : ℕ
    pub after : ℕ
    pub is : asked_span start end firsts ends ≡ shards first after
    pub exactly : Exactly firsts ends start end first after

  pub answered : Answered
  answered = by (leb end start) (ltb (lo day start end firsts ends r) (hi day start end firsts ends r)) refl refl
    where
      nothing : ((i : ℕ) → i < length firsts → Asked start end firsts ends i → ⊥) → Answered
      nothing never = record { first = 0; after = 0; is = span_none start end firsts ends r.paired never; exactly = exactly-none never }

      by : (s t : Bool) → leb end start ≡ s → ltb (lo day start end firsts ends r) (hi day start end firsts ends r) ≡ t → Answered
      by true t e f =
          nothing (λ i h a. let m = ltb-true (max (get_or firsts i 0) start) (min (get_or ends i 0) end) a in omega (arith, m, leb-true end start e))
      by false true e f =
          let s = ltb-true (lo day start end firsts ends r) (hi day start end firsts ends r) f in
          let all = between day start end firsts ends r (leb-false end start e) in
          let only : (i : ℕ) → i < length firsts → Asked start end firsts ends i → (lo day start end firsts ends r ≤ i) × (i < hi day start end firsts ends r) =
          λ i h a. (from-lo day start end firsts ends r i h a, under-hi day start end firsts ends r i h a) in
          record {
            first = lo day start end firsts ends r;
            after = hi day start end firsts ends r;
            is = span-is start end firsts ends _ _ r.paired s (high day start end firsts ends r).inside all only;
            exactly = exactly-span _ _ s (high day start end firsts ends r).inside all only;
          }
      by false false e f =
          nothing (λ i h a.
          omega (arith, from-lo day start end firsts ends r i h a, under-hi day start end firsts ends r i h a, ltb-false (lo day start end firsts ends r) (hi day start end firsts ends r) f))

  -- and no other answer is
  pub span-exactly : (p q : ℕ) → asked_span start end firsts ends ≡ shards p q → Exactly firsts ends start end p q
  span-exactly p q h =
      let a = answered in
      let e = sym a.is ∙ h in
      subst (λ (k : ℕ). Exactly firsts ends start end p k) (ap after_of e)
      (subst (λ (k : ℕ). Exactly firsts ends start end k a.after) (ap first_of e) a.exactly)

  pub exactly-one : (p q : ℕ) → Exactly firsts ends start end p q → asked_span start end firsts ends ≡ shards p q
  exactly-one p q x = by (ltb p q) refl
    where
      one : (i : ℕ) → i < length firsts → Asked start end firsts ends i → (p ≤ i) × (i < q)
      one i h a = (x.asked i h).1 (asked-common start end firsts ends i a)

      by : (t : Bool) → ltb p q ≡ t → asked_span start end firsts ends ≡ shards p q
      by true e =
          span-is start end firsts ends p q r.paired (ltb-true p q e) x.inside
          (λ i h k. let c = (x.asked i (omega (arith, k, x.inside))).0 (h, k) in common-asked start end firsts ends i c.0 c.1) one
      by false e =
          let z = x.none (ltb-false p q e) in
          span_none start end firsts ends r.paired (λ i h a. let b = one i h a in omega (arith, b.0, b.1, z.0, z.1))
          ∙ ap (λ (k : ℕ). shards k 0) (sym z.0) ∙ ap (shards p) (sym z.1)

-- ---- the asked shards stand together
together-by : (day : ℕ) (firsts ends : List ℕ) (start end i k j : ℕ) → Rules day firsts ends → i ≤ k → k ≤ j → j < length firsts
    → (x : ℕ) → Common firsts ends start end i x → (y : ℕ) → Common firsts ends start end j y
    → (s t : Bool) → ltb i k ≡ s → ltb k j ≡ t → (frame : ℕ) × Common firsts ends start end k frame
together-by day firsts ends start end i k j r h m n x c y d true true e f =
    let a = r.apart i k (ltb-true i k e) (omega arith) in
    let b = r.apart k j (ltb-true k j f) n in
    let s = r.some k (omega arith) in (
      get_or firsts k 0,
      record {
        shard = record { from = omega arith; before = s };
        range = record { from = omega (arith, c.shard.before, c.range.from, a); before = omega (arith, d.shard.from, d.range.before, b, s) };
      },
    )
together-by day firsts ends start end i k j r h m n x c y d true false e f =
    let same : j ≡ k = omega (arith, ltb-false k j f) in
    (y, subst (λ (q : ℕ). Common firsts ends start end q y) same d)
together-by day firsts ends start end i k j r h m n x c y d false t e f =
    let same : i ≡ k = omega (arith, ltb-false i k e) in
    (x, subst (λ (q : ℕ). Common firsts ends start end q x) same c)

pub together : Together
together day firsts ends start end i k j r h m n x y =
    together-by day firsts ends start end i k j r h m n x.0 x.1 y.0 y.1 (ltb i k) (ltb k j) refl refl
