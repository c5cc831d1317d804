-- A query's range by its tests (BEHAVIOUR: Router): what each refusal comes of, and what is left.
-- Assumes nothing.
use Rattle.router.specs.Found.{frames}
use Rattle.std.specs.Prelude.{ℕ, ◌+◌, ◌≤◌, ◌<◌, ◌≡◌, refl, Bool, true, false, ℤ, pos, negsuc, Err}
use Rattle.std.proofs.Common.{arith}
use borrow.Author.Tests.{lt-ltb, le-ltb, le-leb, leb-true}
use Rattle.std.proofs.Math.IntN.{nat_abs}
use Rattle.answers.specs.Refusals.{out_of_bounds, past_day, most_count}
use Rattle.rates.specs.Day.{day_frames}
use Rattle.router.specs.Query.{is_length, range_at}

-- from 0 to 400,000,000
pub length-told : (z : ℤ) → is_length z ≡ true → (n : ℕ) × ((z ≡ pos n) × (n ≤ 400000000))
length-told (pos n) e = (n, (refl, leb-true n most_count e))
length-told (negsuc n) e = let z : ◌≡◌ {A = Bool} false true = e in absurd (by z)
  where
    by : ◌≡◌ {A = Bool} false true → ⊥
    by z = let o : ◌≡◌ {A = ℕ} 0 1 = cc in omega (arith, o)

pub length-in : (n : ℕ) → n ≤ 400000000 → is_length (pos n) ≡ true
length-in n h = le-leb n most_count h

-- ---- the range
module _ (rate : ℕ) (length count : ℤ) where
  pub range-out : is_length length ≡ false → range_at rate length count ≡ Err out_of_bounds
  unfolding range_at
  range-out e = simp e

  pub range-past : is_length length ≡ true → day_frames rate < nat_abs count + nat_abs length → range_at rate length count ≡ Err past_day
  unfolding range_at
  range-past e h = simp (e, lt-ltb (day_frames rate) (nat_abs count + nat_abs length) h)

  pub range-in : is_length length ≡ true → nat_abs count + nat_abs length ≤ day_frames rate
      → range_at rate length count ≡ frames (nat_abs count) (nat_abs count + nat_abs length)
  unfolding range_at
  range-in e h = simp (e, le-ltb (day_frames rate) (nat_abs count + nat_abs length) h)
