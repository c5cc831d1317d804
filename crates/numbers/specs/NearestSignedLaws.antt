-- Laws of the nearest on signed numbers, over every step n above zero (BEHAVIOUR: Time, Arithmetic).
-- Assumes nothing.
use Rattle.std.specs.Prelude.{◌≡◌, ℕ, suc, ◌*◌, ◌≤◌, ◌<◌, ℤ, pos, negsuc, nat_abs, ◌-ℤ◌, ◌*ℤ◌, ◌≤ℤ◌}
use Rattle.std.proofs.Common.{ap, mul-pos, arith}
use Rattle.numbers.specs.Sign.{is_neg}
use Rattle.numbers.specs.SignLaws.{abs_neg, abs-signed, is_neg-neg, neg-mul}
use Rattle.numbers.specs.OrderLaws.{le-pos, le-across, le-neg, pos-le, neg-le}
use Rattle.numbers.specs.DistanceLaws.{far, far-neg}
use Rattle.numbers.specs.Nearest.{nearest_n, nearest_z}
use Rattle.numbers.specs.NearestLaws.{near-above, near-below, near-exact, near-mono}

-- the nearest's magnitude is the magnitude's nearest
pub nearest-abs : (x : ℤ) (n : ℕ) → nat_abs (nearest_z x n) ≡ nearest_n (nat_abs x) n
nearest-abs x n = abs-signed (is_neg x) (nearest_n (nat_abs x) n)

-- at most half a step away
half-gap : (a n : ℕ) → 0 < n → 2 * nat_abs (pos (nearest_n a n * n) -ℤ pos a) ≤ n
half-gap a n h = rw (far (nearest_n a n * n) a) (omega (arith, near-above a n h, near-below a n h))

pub half_step : (x : ℤ) (n : ℕ) → 0 < n → 2 * nat_abs (nearest_z x n *ℤ pos n -ℤ x) ≤ n
half_step (pos a) n h = half-gap a n h
half_step (negsuc a) n h =
    rw (neg-mul (pos (nearest_n (suc a) n)) n, far-neg (pos (nearest_n (suc a) n * n)) (pos (suc a))) (half-gap (suc a) n h)

-- a multiple's nearest is its own number
pub exact : (k : ℤ) (n : ℕ) → 0 < n → nearest_z (k *ℤ pos n) n ≡ k
exact (pos k) n h = ap pos (near-exact k n h)
exact (negsuc k) n h =
    simp (is_neg-neg (suc k * n) (mul-pos (omega arith) h), abs_neg (pos (suc k * n)), near-exact (suc k) n h)

-- more has no lesser nearest
pub monotone : (x y : ℤ) (n : ℕ) → 0 < n → x ≤ℤ y → nearest_z x n ≤ℤ nearest_z y n
monotone (pos a) (pos b) n h l = le-pos (near-mono a b n h (pos-le l))
monotone (pos a) (negsuc b) n h l = absurd l.le
monotone (negsuc a) (pos b) n h l = le-across (nearest_n (suc a) n) (nearest_n b n)
monotone (negsuc a) (negsuc b) n h l =
    le-neg (nearest_n (suc a) n) (nearest_n (suc b) n) (near-mono (suc b) (suc a) n h (neg-le (suc a) (suc b) l))
