-- Of the numbers that pass a test no two have equally many before them, and each count below the whole is had (BEHAVIOUR: Labels and counts).
-- Assumes nothing.
use Rattle.std.specs.Prelude.{◌≡◌, Bool, true, false, ◌⊎◌, ℕ, zero, suc, ◌+◌, ◌-◌, ◌≤◌, ◌<◌}
use Rattle.std.proofs.Math.Path.{refl, ap}
use Rattle.std.proofs.Common.{sym, ◌∙◌, inl, inr, ⊎_elim, add-zero, add-suc, arith}
use Rattle.tally.specs.Before.{before, one_more, Had}

-- m is below n, is n, or is above it
pub which : (m n : ℕ) → (m < n) ⊎ ((m ≡ n) ⊎ (n < m))
which zero zero = inr (inl refl)
which zero (suc n) = inl (omega arith)
which (suc m) zero = inr (inr (omega arith))
which (suc m) (suc n) =
    ⊎_elim
    (λ l. inl (omega arith))
    (λ r. inr (⊎_elim (λ e. inl (ap suc e)) (λ g. inr (omega arith)) r))
    (which m n)

module _ (p : ℕ → Bool) where
  -- what `before` is at 0, past a number that passes, and past one that fails: nobody looks inside again
  pub before-zero : before p 0 ≡ 0
  unfolding before
  before-zero = refl

  pub before-pass : (n : ℕ) → p n ≡ true → before p (suc n) ≡ suc (before p n)
  unfolding before
  before-pass n e = ap (λ b. one_more b (before p n)) e

  pub before-fail : (n : ℕ) → p n ≡ false → before p (suc n) ≡ before p n
  unfolding before
  before-fail n e = ap (λ b. one_more b (before p n)) e

  -- n numbers from m on that all pass add n, and n that all fail add nothing
  pub all_pass : (m n : ℕ) → ((k : ℕ) → k < n → p (m + k) ≡ true) → before p (m + n) ≡ before p m + n
  all_pass m zero h = rw (add-zero m) (omega arith)
  all_pass m (suc n) h =
      let fewer = all_pass m n (λ k l. h k (omega arith)) in
      rw (add-suc m n) (omega (arith, before-pass (m + n) (h n (omega arith)), fewer))

  pub all-fail : (m n : ℕ) → ((k : ℕ) → k < n → p (m + k) ≡ false) → before p (m + n) ≡ before p m
  all-fail m zero h = rw (add-zero m) refl
  all-fail m (suc n) h =
      let fewer = all-fail m n (λ k l. h k (omega arith)) in
      rw (add-suc m n) (before-fail (m + n) (h n (omega arith)) ∙ fewer)

  -- further on there are never fewer
  step-le : (n : ℕ) (b : Bool) → p n ≡ b → before p n ≤ before p (suc n)
  step-le n true e = omega (arith, before-pass n e)
  step-le n false e = omega (arith, before-fail n e)

  pub never-fewer : (m k : ℕ) → before p m ≤ before p (m + k)
  never-fewer m zero = rw (add-zero m) (omega arith)
  never-fewer m (suc k) =
      rw (add-suc m k) (omega (arith, never-fewer m k, step-le (m + k) (p (m + k)) refl))

  -- a number that passes has fewer before it than any later one
  pub fewer-before : (m n : ℕ) → p m ≡ true → m < n → before p m < before p n
  fewer-before m n e h =
      let later : n ≡ suc m + (n - suc m) = omega arith in
      omega (arith, never-fewer (suc m) (n - suc m), ap (before p) later, before-pass m e)

  -- two that pass, with equally many before them, are one
  pub one_each : (m n : ℕ) → p m ≡ true → p n ≡ true → before p m ≡ before p n → m ≡ n
  one_each m n e f same =
      ⊎_elim
      (λ l. absurd (omega (arith, fewer-before m n e l)))
      (λ r. ⊎_elim (λ q. q) (λ g. absurd (omega (arith, fewer-before n m f g))) r)
      (which m n)

  -- each j below the number of those that pass below the limit is had
  had-next : (L j : ℕ) (b : Bool) → p L ≡ b → (j < before p L → Had p L j) → j < before p (suc L) → Had p (suc L) j
  had-next L j b e earlier h = by b e (which j (before p L))
    where
      further : Had p L j → Had p (suc L) j
      further x = record { at = x.at; low = omega (arith, x.low); passes = x.passes; earlier = x.earlier }

      by : (b : Bool) → p L ≡ b → (j < before p L) ⊎ ((j ≡ before p L) ⊎ (before p L < j)) → Had p (suc L) j
      by b e (inl l) = further (earlier l)
      by true e (inr (inl q)) = record { at = L; low = omega arith; passes = e; earlier = sym q }
      by true e (inr (inr g)) = absurd (omega (arith, before-pass L e, h))
      by false e (inr (inl q)) = absurd (omega (arith, before-fail L e, h))
      by false e (inr (inr g)) = absurd (omega (arith, before-fail L e, h))

  pub each-had : (L j : ℕ) → j < before p L → Had p L j
  each-had zero j h = absurd (omega (arith, before-zero, h))
  each-had (suc L) j h = had-next L j (p L) refl (λ l. each-had L j l) h
