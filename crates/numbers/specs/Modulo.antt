-- A number reduced by whole n's (BEHAVIOUR: Positions): what it is, and the function that computes it. Never below zero, whatever the sign.
-- Assumes nothing.
use Rattle.std.specs.Prelude.{◌≡◌, cond, ℕ, ◌-◌, ◌%◌, ◌<◌, eqb, ℤ, pos, negsuc, ◌+ℤ◌, ◌*ℤ◌}

-- r is x reduced by whole n's: it lies from 0 up to n, which is not included, and differs from x by a multiple of n
pub record Reduced (x : ℤ) (n r : ℕ) : Type 0 where
  pub under : r < n
  pub times : ℤ
  pub whole : (times *ℤ pos n) +ℤ pos r ≡ x

-- of a it is a % n, and of -(a + 1) it is n - 1 - a % n
abbrev pub left_up : ℤ → ℕ → ℕ
left_up (pos a) n = a % n
left_up (negsuc a) n = n - 1 - a % n

-- the same for every n: 0 where n is 0
unfoldable pub reduced_z : ℤ → ℕ → ℕ
reduced_z x n = cond (eqb n 0) 0 (left_up x n)
