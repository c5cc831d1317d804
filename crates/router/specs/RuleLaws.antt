-- What the test of a directory tells (BEHAVIOUR: Router): its rules, both ways, and that firsts and ends rise.
-- Assumes nothing.
use Rattle.std.specs.Prelude.{ℕ, zero, suc, ◌≤◌, ◌<◌, ◌≡◌, refl, List, [], ◌∷◌, Bool, true, false, cond, ltb, leb, length, get_or}
use Rattle.std.proofs.Common.{ap, arith, le-ltb, le-leb, ltb-true, ltb-false, leb-true, leb-false}
use Rattle.std.proofs.Math.Bool.{and-eq-true_iff}
use Rattle.std.proofs.lemmas.Bool.{lt-leb}
use Rattle.router.specs.Directory.{Rules, in_order, is_directory}

-- ---- one shard at a time
pub record Fine (day low f e : ℕ) (firsts ends : List ℕ) : Type 0 where
  pub after : low ≤ f
  pub some : f < e
  pub within : e ≤ day
  pub rest : in_order day e firsts ends ≡ true

fine : (day low f e : ℕ) (firsts ends : List ℕ) → in_order day low (f ∷ firsts) (e ∷ ends) ≡ true → Fine day low f e firsts ends
unfolding in_order
fine day low f e firsts ends h = by (ltb f low) (leb e f) (ltb day e) refl refl refl h
  where
    by : (p q r : Bool) → ltb f low ≡ p → leb e f ≡ q → ltb day e ≡ r
        → cond p false (cond q false (cond r false (in_order day e firsts ends))) ≡ true → Fine day low f e firsts ends
    by true q r a b c h = let z : ◌≡◌ {A = ℕ} 0 1 = cc in absurd (omega arith)
    by false true r a b c h = let z : ◌≡◌ {A = ℕ} 0 1 = cc in absurd (omega arith)
    by false false true a b c h = let z : ◌≡◌ {A = ℕ} 0 1 = cc in absurd (omega arith)
    by false false false a b c h = record { after = ltb-false f low a; some = leb-false e f b; within = ltb-false day e c; rest = h }

-- ---- all of them, from a low bound on
pub record Ordered (day low : ℕ) (firsts ends : List ℕ) : Type 0 where
  pub paired : length firsts ≡ length ends
  pub above : (i : ℕ) → i < length firsts → low ≤ get_or firsts i 0
  pub some : (i : ℕ) → i < length firsts → get_or firsts i 0 < get_or ends i 0
  pub apart : (i j : ℕ) → i < j → j < length firsts → get_or ends i 0 ≤ get_or firsts j 0
  pub within : (i : ℕ) → i < length firsts → get_or ends i 0 ≤ day

module _ (day low f e : ℕ) (firsts ends : List ℕ) (k : Fine day low f e firsts ends) (r : Ordered day e firsts ends) where
  above-by : (i : ℕ) → i < suc (length firsts) → low ≤ get_or (f ∷ firsts) i 0
  above-by zero q = k.after
  above-by (suc i) q = omega (arith, k.after, k.some, r.above i (omega arith))

  some-by : (i : ℕ) → i < suc (length firsts) → get_or (f ∷ firsts) i 0 < get_or (e ∷ ends) i 0
  some-by zero q = k.some
  some-by (suc i) q = r.some i (omega arith)

  apart_by : (i j : ℕ) → i < j → j < suc (length firsts) → get_or (e ∷ ends) i 0 ≤ get_or (f ∷ firsts) j 0
  apart_by i zero p q = absurd (omega arith)
  apart_by zero (suc j) p q = r.above j (omega arith)
  apart_by (suc i) (suc j) p q = r.apart i j (omega arith) (omega arith)

  within_by : (i : ℕ) → i < suc (length firsts) → get_or (e ∷ ends) i 0 ≤ day
  within_by zero q = k.within
  within_by (suc i) q = r.within i (omega arith)

ordered : (day low : ℕ) (firsts ends : List ℕ) → in_order day low firsts ends ≡ true → Ordered day low firsts ends
unfolding in_order
ordered day low [] [] h =
    record {
      paired = refl;
      above = λ i q. absurd (omega arith);
      some = λ i q. absurd (omega arith);
      apart = λ i j p q. absurd (omega arith);
      within = λ i q. absurd (omega arith);
    }
ordered day low [] (e ∷ ends) h = let z : ◌≡◌ {A = ℕ} 0 1 = cc in absurd (omega arith)
ordered day low (f ∷ firsts) [] h = let z : ◌≡◌ {A = ℕ} 0 1 = cc in absurd (omega arith)
ordered day low (f ∷ firsts) (e ∷ ends) h =
    let k = fine day low f e firsts ends h in
    let r = ordered day e firsts ends k.rest in
    record {
      paired = omega (arith, r.paired);
      above = above-by day low f e firsts ends k r;
      some = some-by day low f e firsts ends k r;
      apart = apart_by day low f e firsts ends k r;
      within = within_by day low f e firsts ends k r;
    }

-- and back: what is so ordered passes the test
pub passes : (day low : ℕ) (firsts ends : List ℕ) → Ordered day low firsts ends → in_order day low firsts ends ≡ true
unfolding in_order
passes day low [] [] r = refl
passes day low [] (e ∷ ends) r = absurd (omega (arith, r.paired))
passes day low (f ∷ firsts) [] r = absurd (omega (arith, r.paired))
passes day low (f ∷ firsts) (e ∷ ends) r =
    let rest = passes day e firsts ends (record {
      paired = omega (arith, r.paired);
      above = λ i q. r.apart 0 (suc i) (omega arith) (omega arith);
      some = λ i q. r.some (suc i) (omega arith);
      apart = λ i j p q. r.apart (suc i) (suc j) (omega arith) (omega arith);
      within = λ i q. r.within (suc i) (omega arith);
    }) in
    rw (le-ltb f low (r.above 0 (omega arith)), lt-leb e f (r.some 0 (omega arith)), le-ltb day e (r.within 0 (omega arith))) rest

-- ---- the test is of the rules
pub rules-told : (day : ℕ) (firsts ends : List ℕ) → is_directory day firsts ends ≡ true → Rules day firsts ends
unfolding is_directory
rules-told day firsts ends h =
    let both = (and-eq-true_iff (leb (length firsts) 256) (in_order day 0 firsts ends)).0 h in
    let r = ordered day 0 firsts ends both.1 in
    record { paired = r.paired; few = leb-true (length firsts) 256 both.0; some = r.some; apart = r.apart; within = r.within }

pub rules-pass : (day : ℕ) (firsts ends : List ℕ) → Rules day firsts ends → is_directory day firsts ends ≡ true
unfolding is_directory
rules-pass day firsts ends r =
    (and-eq-true_iff (leb (length firsts) 256) (in_order day 0 firsts ends)).1 (
      le-leb (length firsts) 256 r.few,
      passes day 0 firsts ends (record { paired = r.paired; above = λ i q. omega arith; some = r.some; apart = r.apart; within = r.within }),
    )

-- ---- firsts rise, and so do ends
abbrev pub Rising : List ℕ → Type 0
Rising l = (i j : ℕ) → i ≤ j → j < length l → get_or l i 0 ≤ get_or l j 0

module _ (day : ℕ) (firsts ends : List ℕ) (r : Rules day firsts ends) where
  pub firsts-rise : Rising firsts
  firsts-rise i j h k = by (ltb i j) refl
    where
      by : (t : Bool) → ltb i j ≡ t → get_or firsts i 0 ≤ get_or firsts j 0
      by true e = omega (arith, r.some i (omega arith), r.apart i j (ltb-true i j e) k)
      by false e = let s : i ≡ j = omega (arith, ltb-false i j e) in omega (arith, ap (λ (n : ℕ). get_or firsts n 0) s)

  pub ends-rise : Rising ends
  ends-rise i j h k = by (ltb i j) refl
    where
      by : (t : Bool) → ltb i j ≡ t → get_or ends i 0 ≤ get_or ends j 0
      by true e =
          let p : j < length firsts = omega (arith, r.paired) in
          omega (arith, r.some j p, r.apart i j (ltb-true i j e) p)
      by false e = let s : i ≡ j = omega (arith, ltb-false i j e) in omega (arith, ap (λ (n : ℕ). get_or ends n 0) s)

-- ---- as many firsts as ends, or the test fails
pub uneven : (day low : ℕ) (firsts ends : List ℕ) → (length firsts ≡ length ends → ⊥) → false ≡ in_order day low firsts ends
uneven day low firsts ends h = by (in_order day low firsts ends) refl
  where
    by : (t : Bool) → in_order day low firsts ends ≡ t → false ≡ t
    by true e = absurd (h (ordered day low firsts ends e).paired)
    by false e = refl
