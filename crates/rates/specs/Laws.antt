-- Laws of the rate numbers that callers cite (BEHAVIOUR: Rates): the answer for each number, and the labels that a minute drops.
-- Assumes nothing.
use Rattle.std.specs.Prelude.{ℕ, zero, suc, ◌-◌, ◌≤◌, ◌≡◌, refl, Bool, true, false, not, cond, ◌||◌, ◌&&◌, T, eqb, ltb, leb, get_or, Ok, Err}
use Rattle.std.proofs.Common.{arith, ap, subst, leb-false}
use Rattle.std.proofs.Math.ListN.{get_or-eq_default}
use Rattle.answers.specs.Refusals.{no_such}
use Rattle.rates.specs.Rates.{rates, is_rate, no_row, rate_row, rate_at, drop_frames, is_drop}
use Rattle.rates.specs.Rule.{in_table, rows-twelve}

-- ---- the row of a number

-- a rate's row is its entry of the table, counted from 1
pub row_in : (n : ℕ) → is_rate n ≡ true → rate_row n ≡ get_or rates (n - 1) no_row
unfolding rate_row
row_in zero h = absurd (omega (arith, (in_table zero h).0))
row_in (suc m) h = ap (λ (k : ℕ). get_or rates k no_row) (omega arith)

-- any other number's is zeros
pub row_out : (n : ℕ) → is_rate n ≡ false → rate_row n ≡ no_row
unfolding rate_row is_rate
row_out zero h = refl
row_out (suc m) h = by (leb 1 (suc m)) (leb (suc m) 12) refl refl h
  where
    by : (s t : Bool) → leb 1 (suc m) ≡ s → leb (suc m) 12 ≡ t → (s && t) ≡ false → get_or rates m no_row ≡ no_row
    by false t low high k = absurd (omega (arith, leb-false 1 (suc m) low))
    by true true low high k = let z : true ≡ false = k in absurd (subst T z tt)
    by true false low high k = get_or-eq_default rates no_row {n = m} (omega (arith, rows-twelve, leb-false (suc m) 12 high))

-- ---- the answer for a number that is a rate, and for one that is none

pub rate_at-in : (n : ℕ) → is_rate n ≡ true → rate_at n ≡ Ok (rate_row n)
unfolding rate_at
rate_at-in n h = ap (λ (t : Bool). cond (not t) (Err no_such) (Ok (rate_row n))) h

pub rate_at-out : (n : ℕ) → is_rate n ≡ false → rate_at n ≡ Err no_such
unfolding rate_at
rate_at-out n h = ap (λ (t : Bool). cond (not t) (Err no_such) (Ok (rate_row n))) h

-- ---- the labels that a minute drops

-- D is at most 4, at any number
pub drop_le : (n : ℕ) → drop_frames n ≤ 4
unfolding drop_frames
drop_le n = go (eqb n 5) (eqb n 11)
  where
    go : (s t : Bool) → cond s 2 (cond t 4 0) ≤ 4
    go true t = omega arith
    go false true = omega arith
    go false false = omega arith

-- the drop rates are those at which D is above 0
pub drop-above : (n : ℕ) → is_drop n ≡ ltb 0 (drop_frames n)
unfolding is_drop drop_frames
drop-above n = go (eqb n 5) (eqb n 11)
  where
    go : (s t : Bool) → (s || t) ≡ ltb 0 (cond s 2 (cond t 4 0))
    go true t = refl
    go false true = refl
    go false false = refl
