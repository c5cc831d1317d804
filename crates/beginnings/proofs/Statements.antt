-- There is one longest beginning, and of two shapes it is the longer.
-- Assumes nothing.
use Prim.Native.Nat.{ℕ, zero, suc, ◌≤◌, max}
use mathlib.Core.Path.{◌≡◌}
use mathlib.Core.Logic.{◌⊎◌, inl, inr, ⊎_elim}
use mathlib.Core.List.{List, ◌++◌}
use native.Mathlib.Omega.{arith}
use native.Mathlib.Nat.{max-eq_left, max-eq_right}
use lib.ListN.{length, take}
use Rattle.beginnings.specs.Beginning.{Begins, LongestBeginning, Either}
use Rattle.beginnings.specs.Statements.{OneLongest, LongestOfEither}

pub one_longest : OneLongest
one_longest Shape l m n p q = omega (arith, p.longest n q.within q.begins, q.longest m p.within p.begins)

-- what begins a text of one shape begins one of another that has all its texts
pub begins-in : {Shape Other : List ℕ → Type 0} {l : List ℕ} → ((t : List ℕ) → Shape t → Other t) → Begins Shape l → Begins Other l
begins-in {l = l} f b = record { behind = b.behind; shaped = f (l ++ b.behind) b.shaped }

-- ---- two shapes
module _ (Shape Other : List ℕ → Type 0) (l : List ℕ) (m n : ℕ) (p : LongestBeginning Shape l m) (q : LongestBeginning Other l n) where
  -- what begins a text of either is no longer than the longer
  either-most : (k : ℕ) → k ≤ length l → Begins (Either Shape Other) (take k l) → k ≤ max m n
  either-most k h b =
      ⊎_elim
      (λ s. omega (arith, p.longest k h record { behind = b.behind; shaped = s }))
      (λ s. omega (arith, q.longest k h record { behind = b.behind; shaped = s }))
      b.shaped

  longer : (k : ℕ) → max m n ≡ k → k ≤ length l → Begins (Either Shape Other) (take k l) → LongestBeginning (Either Shape Other) l (max m n)
  longer k e h b = rw e record { within = h; begins = b; longest = λ j i c. rw e at (either-most j i c) }

  either-longest : (m ≤ n) ⊎ (n ≤ m) → LongestBeginning (Either Shape Other) l (max m n)
  either-longest (inl h) = longer n (max-eq_right h) q.within (begins-in (λ t s. inr s) q.begins)
  either-longest (inr h) = longer m (max-eq_left h) p.within (begins-in (λ t s. inl s) p.begins)

order : (m n : ℕ) → (m ≤ n) ⊎ (n ≤ m)
order zero n = inl (omega arith)
order (suc m) zero = inr (omega arith)
order (suc m) (suc n) = ⊎_elim (λ h. inl (omega arith)) (λ h. inr (omega arith)) (order m n)

pub longest_of_either : LongestOfEither
longest_of_either Shape Other l m n p q = either-longest Shape Other l m n p q (order m n)
