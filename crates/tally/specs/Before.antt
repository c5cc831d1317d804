-- How many of the numbers below n pass a test (BEHAVIOUR: Labels and counts).
-- Assumes nothing.
use Rattle.std.specs.Prelude.{◌≡◌, Bool, true, false, ℕ, zero, suc, ◌<◌}

-- one more, if the test is passed
abbrev pub one_more : Bool → ℕ → ℕ
one_more true k = suc k
one_more false k = k

-- of 0, 1, .. n - 1 those that pass the test p, counted
unfoldable pub before : (p : ℕ → Bool) (n : ℕ) → ℕ
before p zero = 0
before p (suc n) = one_more (p n) (before p n)

-- the number below `limit` that passes and has j that pass before it
pub record Had (p : ℕ → Bool) (limit j : ℕ) : Type 0 where
  pub at : ℕ
  pub low : at < limit
  pub passes : p at ≡ true
  pub earlier : before p at ≡ j
