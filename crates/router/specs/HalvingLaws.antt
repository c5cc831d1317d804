-- Halving finds how many numbers of a rising list are below one (BEHAVIOUR: Router), and so the shards that walking finds: proofs/HalvedSpan.antt.
-- Assumes nothing.
use Rattle.std.specs.Prelude.{ℕ, zero, suc, ◌+◌, ◌-◌, ◌≤◌, ◌<◌, ◌≡◌, List, Bool, length, get_or}
use Rattle.std.proofs.Math.Path.{refl, sym}
use Rattle.std.proofs.Common.{◌∙◌, arith}
use Rattle.std.proofs.Math.Bool.{true, false, cond}
use borrow.Author.Tests.{lt-ltb, le-ltb, ltb-true, ltb-false}
use Rattle.std.proofs.Math.Dec.{ltb}
use Rattle.router.specs.Halving.{middle, halved_from, halved}
use Rattle.router.specs.RuleLaws.{Rising}

-- ---- the loop: a turn, and the end
pub halved-end : (turns v : ℕ) (l : List ℕ) (lo hi : ℕ) → hi ≤ lo → halved_from turns v l lo hi ≡ lo
unfolding halved_from
halved-end zero v l lo hi h = refl
halved-end (suc turns) v l lo hi h = rw (le-ltb lo hi h)

-- so many turns are enough, and what is wanted is wanted of the part
pub record Halves (v : ℕ) (l : List ℕ) (lo hi : ℕ) : Type 0 where
  pub order : lo ≤ hi
  pub inside : hi ≤ length l
  pub turns : ℕ
  pub enough : hi - lo ≤ turns
  pub same : halved v l ≡ halved_from turns v l lo hi

pub halves-start : (v : ℕ) (l : List ℕ) → Halves v l 0 (length l)
unfolding halved
halves-start v l = record { order = omega arith; inside = omega arith; turns = length l; enough = omega arith; same = refl }

up_by : (turns v : ℕ) (l : List ℕ) (lo hi : ℕ) → lo < hi → hi - lo ≤ turns → get_or l (middle lo hi) 0 < v
    → (n : ℕ) × ((hi - (middle lo hi + 1) ≤ n) × (halved_from turns v l lo hi ≡ halved_from n v l (middle lo hi + 1) hi))
unfolding halved_from
up_by zero v l lo hi h k q = absurd (omega arith)
up_by (suc turns) v l lo hi h k q = (turns, (omega arith, rw (lt-ltb lo hi h, lt-ltb (get_or l (middle lo hi) 0) v q)))

down_by : (turns v : ℕ) (l : List ℕ) (lo hi : ℕ) → lo < hi → hi - lo ≤ turns → v ≤ get_or l (middle lo hi) 0
    → (n : ℕ) × ((middle lo hi - lo ≤ n) × (halved_from turns v l lo hi ≡ halved_from n v l lo (middle lo hi)))
unfolding halved_from
down_by zero v l lo hi h k q = absurd (omega arith)
down_by (suc turns) v l lo hi h k q = (turns, (omega arith, rw (lt-ltb lo hi h, le-ltb (get_or l (middle lo hi) 0) v q)))

pub halves-up : (v : ℕ) (l : List ℕ) (lo hi : ℕ) → Halves v l lo hi → lo < hi → get_or l (middle lo hi) 0 < v → Halves v l (middle lo hi + 1) hi
halves-up v l lo hi h s q =
    let u = up_by h.turns v l lo hi s h.enough q in
    record { order = omega arith; inside = h.inside; turns = u.0; enough = u.1.0; same = h.same ∙ u.1.1 }

pub halves-down : (v : ℕ) (l : List ℕ) (lo hi : ℕ) → Halves v l lo hi → lo < hi → v ≤ get_or l (middle lo hi) 0 → Halves v l lo (middle lo hi)
halves-down v l lo hi h s q =
    let u = down_by h.turns v l lo hi s h.enough q in
    record { order = omega arith; inside = omega (arith, h.inside); turns = u.0; enough = u.1.0; same = h.same ∙ u.1.1 }

pub halves-done : (v : ℕ) (l : List ℕ) (lo hi : ℕ) → Halves v l lo hi → hi ≤ lo → lo ≡ halved v l
halves-done v l lo hi h p = sym (h.same ∙ halved-end h.turns v l lo hi p)

-- ---- in a rising list: all before are below, none behind is
pub record Parted (v : ℕ) (l : List ℕ) (k : ℕ) : Type 0 where
  pub inside : k ≤ length l
  pub front : (i : ℕ) → i < k → get_or l i 0 < v
  pub back : (i : ℕ) → k ≤ i → i < length l → v ≤ get_or l i 0

parted-from : (turns v : ℕ) (l : List ℕ) (lo hi : ℕ) → Rising l → lo ≤ hi → hi ≤ length l → hi - lo ≤ turns
    → ((i : ℕ) → i < lo → get_or l i 0 < v) → ((i : ℕ) → hi ≤ i → i < length l → v ≤ get_or l i 0) → Parted v l (halved_from turns v l lo hi)
unfolding halved_from
parted-from zero v l lo hi r o p q f b = record { inside = omega arith; front = f; back = λ i h k. b i (omega arith) k }
parted-from (suc turns) v l lo hi r o p q f b = by (ltb lo hi) (ltb (get_or l (middle lo hi) 0) v) refl refl
    (λ s t. parted-from turns v l (middle lo hi + 1) hi r (omega arith) p (omega arith) (λ i k. omega (arith, r i (middle lo hi) (omega arith) (omega arith), t)) b)
    (λ s t. parted-from turns v l lo (middle lo hi) r (omega arith) (omega arith) (omega arith) f (λ i k m. omega (arith, r (middle lo hi) i k m, t)))
  where
    by : (s t : Bool) → ltb lo hi ≡ s → ltb (get_or l (middle lo hi) 0) v ≡ t
        → (lo < hi → get_or l (middle lo hi) 0 < v → Parted v l (halved_from turns v l (middle lo hi + 1) hi))
        → (lo < hi → v ≤ get_or l (middle lo hi) 0 → Parted v l (halved_from turns v l lo (middle lo hi)))
        → Parted v l (cond s (cond t (halved_from turns v l (middle lo hi + 1) hi) (halved_from turns v l lo (middle lo hi))) lo)
    by false t d e up down = let h = ltb-false lo hi d in record { inside = omega arith; front = f; back = λ i k m. b i (omega arith) m }
    by true true d e up down = up (ltb-true lo hi d) (ltb-true (get_or l (middle lo hi) 0) v e)
    by true false d e up down = down (ltb-true lo hi d) (ltb-false (get_or l (middle lo hi) 0) v e)

pub halved-parts : (v : ℕ) (l : List ℕ) → Rising l → Parted v l (halved v l)
unfolding halved
halved-parts v l r =
    parted-from (length l) v l 0 (length l) r (omega arith) (omega arith) (omega arith) (λ i k. absurd (omega arith)) (λ i k m. absurd (omega arith))
