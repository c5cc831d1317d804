-- Laws of floored division, over every divisor but 0 (BEHAVIOUR: Time, Arithmetic): what rounding down is, and how it goes by magnitudes.
-- Assumes nothing.
use Rattle.std.specs.Prelude.{◌≡◌, refl, true, false, ℕ, zero, suc, ◌+◌, ◌*◌, ◌/◌, ◌≤◌, ◌<◌, T, ℤ, pos, negsuc, neg_ℤ, nat_abs, ◌*ℤ◌, ◌≤ℤ◌}
use Rattle.std.proofs.Common.{sym, ap, subst, zero-mul, div-mul-le_self, suc-mul, le-div_iff_mul-le, div-lt_iff_lt-mul, arith}
use Rattle.std.specs.Bool.{beq}
use Rattle.std.specs.Int.{div_ceil}
use Rattle.std.proofs.lemmas.Grind.{div_ceil_times}
use Rattle.std.proofs.Math.Nat.{zero-div, lt-div-mul-add, div-eq_of_lt-le}
use Rattle.numbers.specs.Sign.{is_neg}
use Rattle.numbers.specs.OrderLaws.{le-pos, le-across, le-neg, pos-le, neg-le}
use Rattle.numbers.specs.Floor.{down, floor_z}

-- n times the number rounded down is not above
pub down-under : (y : ℤ) (n : ℕ) → 0 < n → (down y n *ℤ pos n) ≤ℤ y
down-under (pos a) n h = le-pos (div-mul-le_self a n)
down-under (negsuc a) n h =
    le-neg (suc (a / n) * n) (suc a) (omega (arith, suc-mul (a / n) n, lt-div-mul-add {a = a} {b = n} h))

-- and no larger number has that
pub down-largest : (y : ℤ) (n : ℕ) → 0 < n → (j : ℤ) → (j *ℤ pos n) ≤ℤ y → j ≤ℤ down y n
down-largest (pos a) n h (pos b) l = le-pos ((le-div_iff_mul-le h).1 (pos-le l))
down-largest (pos a) n h (negsuc b) l = le-across (suc b) (a / n)
down-largest (negsuc a) n h (pos b) l = absurd l.le
down-largest (negsuc a) n h (negsuc b) l =
    le-neg (suc b) (suc (a / n)) ((div-lt_iff_lt-mul h).1 (neg-le (suc b * n) (suc a) l))

-- ---- by magnitudes

-- of two numbers of one sign: the magnitudes' quotient
pub floor-alike : (x d : ℤ) → beq (is_neg x) (is_neg d) ≡ true → pos (nat_abs x / nat_abs d) ≡ floor_z x d
floor-alike (pos a) (pos b) e = refl
floor-alike (pos a) (negsuc b) e = absurd (subst T (sym e) tt)
floor-alike (negsuc a) (pos b) e = absurd (subst T (sym e) tt)
floor-alike (negsuc a) (negsuc b) e = refl

-- a number below zero, rounded down, is -k where k is its magnitude rounded up
down-neg : (a n k : ℕ) → suc a ≤ k * n → k * n < suc a + n → neg_ℤ (pos k) ≡ negsuc (a / n)
down-neg a n zero lo hi = absurd (omega (arith, zero-mul n))
down-neg a n (suc k) lo hi = ap negsuc (sym (div-eq_of_lt-le {k = k} n (omega (arith, suc-mul k n)) (omega (arith, suc-mul k n))))

-- of two numbers of different signs: the magnitudes' quotient, rounded up and negated
module _ (x d : ℤ) (unlike : beq (is_neg x) (is_neg d) ≡ false) where
  rounded-up : (k : ℕ) → nat_abs x ≤ k * nat_abs d → k * nat_abs d < nat_abs x + nat_abs d → neg_ℤ (pos k) ≡ floor_z x d
  rounded-up = by_cases x d unlike
    where
      by_cases : (x d : ℤ) → beq (is_neg x) (is_neg d) ≡ false
          → (k : ℕ) → nat_abs x ≤ k * nat_abs d → k * nat_abs d < nat_abs x + nat_abs d → neg_ℤ (pos k) ≡ floor_z x d
      by_cases (pos a) (pos b) e k lo hi = absurd (subst T e tt)
      by_cases (pos zero) (negsuc b) e zero lo hi = ap pos (sym (zero-div (suc b)))
      by_cases (pos zero) (negsuc b) e (suc k) lo hi = absurd (omega arith)
      by_cases (pos (suc a)) (negsuc b) e k lo hi = down-neg a (suc b) k lo hi
      by_cases (negsuc a) (pos b) e k lo hi = down-neg a b k lo hi
      by_cases (negsuc a) (negsuc b) e k lo hi = absurd (subst T e tt)

  pub floor-unlike : 0 < nat_abs d → neg_ℤ (pos (div_ceil (nat_abs x) (nat_abs d))) ≡ floor_z x d
  floor-unlike h =
      let t = div_ceil_times (nat_abs x) (nat_abs d) h in rounded-up (div_ceil (nat_abs x) (nat_abs d)) t.0 t.1
