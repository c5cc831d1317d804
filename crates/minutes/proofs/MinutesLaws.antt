-- The step rule in closed form, and that every entry is a count (BEHAVIOUR: The minute table).
-- Assumes nothing.
use Rattle.std.specs.Prelude.{◌≡◌, refl, Bool, true, false, cond, ℕ, zero, suc, ◌+◌, ◌*◌, ◌/◌, ◌%◌, ◌≤◌, eqb, pos}
use Rattle.std.proofs.Common.{arith, le-leb, eqb-true}
use Rattle.std.proofs.lemmas.Bool.{eqb-false}
use Rattle.answers.specs.Refusals.{most_count, is_count}
use Rattle.minutes.specs.Minutes.{minute_start}

-- 1798 a minute, and 2 more for each multiple of 10 before
pub start-closed : (minute : ℕ) → minute_start minute ≡ 1798 * minute + 2 * ((minute + 9) / 10)
unfolding minute_start
start-closed zero = refl
start-closed (suc m) = by (eqb (m % 10) 0) refl (start-closed m)
  where
    by :
        (b : Bool) → eqb (m % 10) 0 ≡ b → minute_start m ≡ 1798 * m + 2 * ((m + 9) / 10)
        → minute_start m + cond b 1800 1798 ≡ 1798 * suc m + 2 * ((suc m + 9) / 10)
    by true e h = let p = eqb-true (m % 10) 0 e in omega arith
    by false e h = let p = eqb-false (m % 10) 0 e in omega arith

-- every entry is a count within its bounds
pub start-held : (minute : ℕ) → minute ≤ 1439 → is_count (pos (minute_start minute)) ≡ true
start-held minute h = le-leb (minute_start minute) most_count (omega (arith, start-closed minute))
