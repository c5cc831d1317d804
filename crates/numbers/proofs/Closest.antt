-- The nearest number's multiple is closest of all, a tie falls to the one away from zero, and both sides of zero are alike.
-- Assumes nothing.
use mathlib.Core.Path.{◌≡◌, sym, ◌∙◌, ap}
use Prim.Native.Nat.{ℕ, suc, ◌+◌, ◌-◌, ◌*◌, ◌≤◌, ◌<◌}
use native.Mathlib.Nat.{mul-le-mul_right}
use native.Mathlib.Decide.{dec_lt}
use native.Mathlib.Omega.{arith}
use lib.IntN.{ℤ, pos, negsuc, neg_ℤ, nat_abs, ◌-ℤ◌, ◌*ℤ◌, neg_ℤ-neg_ℤ}
use Rattle.numbers.specs.SignLaws.{abs_neg, neg-mul}
use Rattle.numbers.specs.DistanceLaws.{far, far-across, far-neg}
use Rattle.numbers.specs.Nearest.{Nearest, nearest_n}
use Rattle.numbers.specs.NearestLaws.{near-above, near-below}

-- ---- on magnitudes

-- how far a and b are apart
abbrev apart : ℕ → ℕ → ℕ
apart a b = (a - b) + (b - a)

module _ (a n b : ℕ) (h : 0 < n) where
  k-above : 2 * (nearest_n a n * n) ≤ 2 * a + n
  k-above = near-above a n h

  k-below : 2 * a < 2 * (nearest_n a n * n) + n
  k-below = near-below a n h

  -- a larger number's multiple is farther
  farther : nearest_n a n < b → apart (nearest_n a n * n) a < apart (b * n) a
  farther l = omega (arith, k-above, k-below, mul-le-mul_right n l)

  -- a smaller one's is as far at least
  no-closer : b < nearest_n a n → apart (nearest_n a n * n) a ≤ apart (b * n) a
  no-closer l = omega (arith, k-above, k-below, mul-le-mul_right n l)

  pub closest-of : apart (nearest_n a n * n) a ≤ apart (b * n) a
  closest-of = by_cases (dec_lt b (nearest_n a n)) (dec_lt (nearest_n a n) b)
    where
      by_cases : Dec (b < nearest_n a n) → Dec (nearest_n a n < b) → apart (nearest_n a n * n) a ≤ apart (b * n) a
      by_cases (yes l) m = no-closer l
      by_cases (no f) (yes l) = omega (arith, farther l)
      by_cases (no f) (no g) = let e : nearest_n a n ≡ b = omega arith in rw e (omega arith)

  pub away_of : apart (b * n) a ≡ apart (nearest_n a n * n) a → b ≤ nearest_n a n
  away_of e = by_cases (dec_lt (nearest_n a n) b)
    where
      by_cases : Dec (nearest_n a n < b) → b ≤ nearest_n a n
      by_cases (yes l) = absurd (omega (arith, farther l))
      by_cases (no g) = omega arith

-- ---- on signed numbers

module _ (a n : ℕ) (h : 0 < n) where
  closest-is : (j : ℤ) → nat_abs (pos (nearest_n a n) *ℤ pos n -ℤ pos a) ≤ nat_abs (j *ℤ pos n -ℤ pos a)
  closest-is (pos b) = rw (far (nearest_n a n * n) a, far (b * n) a) (closest-of a n b h)
  closest-is (negsuc b) =
      rw (far (nearest_n a n * n) a, far-across (suc b * n) a)
      (omega (arith, near-above a n h, near-below a n h))

  away-is : (j : ℤ) → nat_abs (j *ℤ pos n -ℤ pos a) ≡ nat_abs (pos (nearest_n a n) *ℤ pos n -ℤ pos a) → nat_abs j ≤ nearest_n a n
  away-is (pos b) e = away_of a n b h (sym (far (b * n) a) ∙ e ∙ far (nearest_n a n * n) a)
  away-is (negsuc b) e = absurd (omega (arith, e, far (nearest_n a n * n) a, far-across (suc b * n) a, near-above a n h, near-below a n h))

  pub nearest-pos : Nearest (pos a) n (pos (nearest_n a n))
  nearest-pos = record { closest = closest-is; away = away-is }

-- ---- the other side of zero

far-mirror : (j x : ℤ) (n : ℕ) → nat_abs (neg_ℤ j *ℤ pos n -ℤ neg_ℤ x) ≡ nat_abs (j *ℤ pos n -ℤ x)
far-mirror j x n = ap (λ (z : ℤ). nat_abs (z -ℤ neg_ℤ x)) (neg-mul j n) ∙ far-neg (j *ℤ pos n) x

far-mirror' : (j x : ℤ) (n : ℕ) → nat_abs (j *ℤ pos n -ℤ neg_ℤ x) ≡ nat_abs (neg_ℤ j *ℤ pos n -ℤ x)
far-mirror' j x n = ap (λ (z : ℤ). nat_abs (z *ℤ pos n -ℤ neg_ℤ x)) (sym (neg_ℤ-neg_ℤ j)) ∙ far-mirror (neg_ℤ j) x n

-- the negation of the nearest is the nearest of the negation
pub mirrored : {x k : ℤ} {n : ℕ} → Nearest x n k → Nearest (neg_ℤ x) n (neg_ℤ k)
mirrored {x} {k} {n} h =
    record {
      closest = λ j. rw (far-mirror k x n, far-mirror' j x n) (h.closest (neg_ℤ j));
      away = λ j e.
          omega (arith, abs_neg j, abs_neg k, h.away (neg_ℤ j) (sym (far-mirror' j x n) ∙ e ∙ far-mirror k x n));
    }
