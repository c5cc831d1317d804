-- A shard is asked just where it has a frame in common with the range: the first that is asked, the last, and the answer (BEHAVIOUR: Router).
-- Assumes nothing.
use Rattle.router.specs.Found.{shards}
use Rattle.std.specs.Prelude.{ℕ, zero, suc, ◌-◌, ◌≤◌, ◌<◌, max, ◌≡◌, refl, List, [], ◌∷◌, Bool, true, false, cond, eqb, length, get_or}
use Rattle.std.proofs.Common.{ap, ◌∙◌, arith, ltb-true, eqb-true}
use Rattle.std.proofs.lemmas.Bool.{false≢true, eqb-false}
use Rattle.router.specs.Route.{Common, is_asked, first_asked, after_asked, asked_span}
use Rattle.router.specs.AskedLaws.{Asked, Last}

-- a shard that is asked has a frame in common with the range
pub asked-common : (start end : ℕ) (firsts ends : List ℕ) (i : ℕ) → Asked start end firsts ends i → (frame : ℕ) × Common firsts ends start end i frame
asked-common start end firsts ends i h =
    let t = ltb-true (max (get_or firsts i 0) start) _ h in (
      max (get_or firsts i 0) start,
      record { shard = record { from = omega arith; before = omega arith }; range = record { from = omega arith; before = omega arith } },
    )

-- ---- the first that is asked
first_by : (start end f e : ℕ) (n : ℕ) (t : Bool) → is_asked start end f e ≡ t → t ≡ true → cond t 0 (suc n) ≡ 0
first_by start end f e n true h k = refl
first_by start end f e n false h k = absurd (false≢true k)

le-by : (t : Bool) (n m : ℕ) → n ≤ m → cond t 0 (suc n) ≤ suc m
le-by true n m h = omega arith
le-by false n m h = omega arith

-- it comes no later than any that is asked
pub first_below : (start end : ℕ) (firsts ends : List ℕ) (i : ℕ) → length firsts ≡ length ends → i < length firsts → Asked start end firsts ends i
    → first_asked start end firsts ends ≤ i
unfolding first_asked
first_below start end [] ends i p h a = absurd (omega arith)
first_below start end (f ∷ firsts) [] i p h a = absurd (omega arith)
first_below start end (f ∷ firsts) (e ∷ ends) zero p h a = let z = first_by start end f e (first_asked start end firsts ends) (is_asked start end f e) refl a in omega (arith, z)
first_below start end (f ∷ firsts) (e ∷ ends) (suc i) p h a =
    le-by (is_asked start end f e) (first_asked start end firsts ends) i (first_below start end firsts ends i (omega arith) (omega arith) a)

-- and is itself asked, where there is one
pub first-is : (start end : ℕ) (firsts ends : List ℕ) → length firsts ≡ length ends → first_asked start end firsts ends < length firsts
    → Asked start end firsts ends (first_asked start end firsts ends)
unfolding first_asked
first-is start end [] ends p h = absurd (omega arith)
first-is start end (f ∷ firsts) [] p h = absurd (omega arith)
first-is start end (f ∷ firsts) (e ∷ ends) p h = by (is_asked start end f e) refl (λ k. first-is start end firsts ends (omega arith) k) h
  where
    by : (t : Bool) → is_asked start end f e ≡ t
        → (first_asked start end firsts ends < length firsts → Asked start end firsts ends (first_asked start end firsts ends))
        → cond t 0 (suc (first_asked start end firsts ends)) < suc (length firsts)
        → Asked start end (f ∷ firsts) (e ∷ ends) (cond t 0 (suc (first_asked start end firsts ends)))
    by true k later h = k
    by false k later h = later (omega arith)

-- ---- the last that is asked
-- each that is asked comes before the one after it
after_none : (t s : Bool) (n : ℕ) → eqb n 0 ≡ t → s ≡ true → 0 < cond t (cond s 1 0) (suc n)
after_none true true n h k = omega arith
after_none true false n h k = absurd (false≢true k)
after_none false s n h k = omega arith

after_more : (t s : Bool) (n i : ℕ) → eqb n 0 ≡ t → i < n → suc i < cond t (cond s 1 0) (suc n)
after_more true s n i h k = absurd (omega (arith, eqb-true n 0 h))
after_more false s n i h k = omega arith

pub after-above : (start end : ℕ) (firsts ends : List ℕ) (i : ℕ) → length firsts ≡ length ends → i < length firsts → Asked start end firsts ends i
    → i < after_asked start end firsts ends
unfolding after_asked
after-above start end [] ends i p h a = absurd (omega arith)
after-above start end (f ∷ firsts) [] i p h a = absurd (omega arith)
after-above start end (f ∷ firsts) (e ∷ ends) zero p h a =
    after_none (eqb (after_asked start end firsts ends) 0) (is_asked start end f e) (after_asked start end firsts ends) refl a
after-above start end (f ∷ firsts) (e ∷ ends) (suc i) p h a =
    after_more (eqb (after_asked start end firsts ends) 0) (is_asked start end f e) (after_asked start end firsts ends) i refl
    (after-above start end firsts ends i (omega arith) (omega arith) a)

-- and the one before it is asked, where there is one
pub after_is : (start end : ℕ) (firsts ends : List ℕ) → length firsts ≡ length ends → 0 < after_asked start end firsts ends
    → Last start end firsts ends (after_asked start end firsts ends)
unfolding after_asked
after_is start end [] ends p h = absurd (omega arith)
after_is start end (f ∷ firsts) [] p h = absurd (omega arith)
after_is start end (f ∷ firsts) (e ∷ ends) p h =
    by (eqb (after_asked start end firsts ends) 0) (is_asked start end f e) refl refl (λ k. after_is start end firsts ends (omega arith) k) h
  where
    by : (t s : Bool) → eqb (after_asked start end firsts ends) 0 ≡ t → is_asked start end f e ≡ s
        → (0 < after_asked start end firsts ends → Last start end firsts ends (after_asked start end firsts ends))
        → 0 < cond t (cond s 1 0) (suc (after_asked start end firsts ends))
        → Last start end (f ∷ firsts) (e ∷ ends) (cond t (cond s 1 0) (suc (after_asked start end firsts ends)))
    by true true t s later h = record { last = 0; is = refl; inside = omega arith; asked = s }
    by true false t s later h = absurd (omega arith)
    by false s t u later h =
        let n : ¬ (after_asked start end firsts ends ≡ 0) = eqb-false (after_asked start end firsts ends) 0 t in
        let r = later (omega arith) in
        record { last = suc r.last; is = ap suc r.is; inside = omega (arith, r.inside); asked = r.asked }

-- ---- the answer, by which shards are asked
pub span_none : (start end : ℕ) (firsts ends : List ℕ) → length firsts ≡ length ends
    → ((i : ℕ) → i < length firsts → Asked start end firsts ends i → ⊥) → asked_span start end firsts ends ≡ shards 0 0
unfolding asked_span
span_none start end firsts ends p never = by (eqb (after_asked start end firsts ends) 0) refl
  where
    by : (t : Bool) → eqb (after_asked start end firsts ends) 0 ≡ t
        → cond t (shards 0 0) (shards (first_asked start end firsts ends) (after_asked start end firsts ends)) ≡ shards 0 0
    by true e = refl
    by false e =
        let n : ¬ (after_asked start end firsts ends ≡ 0) = eqb-false (after_asked start end firsts ends) 0 e in
        let l = after_is start end firsts ends p (omega arith) in
        absurd (never l.last l.inside l.asked)

-- from lo up to hi, and no other
pub span-is : (start end : ℕ) (firsts ends : List ℕ) (lo hi : ℕ) → length firsts ≡ length ends → lo < hi → hi ≤ length firsts
    → ((i : ℕ) → lo ≤ i → i < hi → Asked start end firsts ends i)
    → ((i : ℕ) → i < length firsts → Asked start end firsts ends i → (lo ≤ i) × (i < hi))
    → asked_span start end firsts ends ≡ shards lo hi
unfolding asked_span
span-is start end firsts ends lo hi p s h all only =
    let below = first_below start end firsts ends lo p (omega arith) (all lo (omega arith) s) in
    let low = only (first_asked start end firsts ends) (omega arith) (first-is start end firsts ends p (omega arith)) in
    let one : first_asked start end firsts ends ≡ lo = omega (arith, low.0, below) in
    let above = after-above start end firsts ends (hi - 1) p (omega arith) (all (hi - 1) (omega arith) (omega arith)) in
    let l = after_is start end firsts ends p (omega arith) in
    let high = only l.last l.inside l.asked in
    let two : after_asked start end firsts ends ≡ hi = omega (arith, l.is, high.1, above) in
    by (eqb (after_asked start end firsts ends) 0) refl one two
  where
    by : (t : Bool) → eqb (after_asked start end firsts ends) 0 ≡ t → first_asked start end firsts ends ≡ lo → after_asked start end firsts ends ≡ hi
        → cond t (shards 0 0) (shards (first_asked start end firsts ends) (after_asked start end firsts ends)) ≡ shards lo hi
    by true e one two = let z = eqb-true (after_asked start end firsts ends) 0 e in absurd (omega (arith, z, two))
    by false e one two = ap (λ (n : ℕ). shards n (after_asked start end firsts ends)) one ∙ ap (shards lo) two
