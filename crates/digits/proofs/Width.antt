-- A number's width is the least number of digits, one or more, that are enough for it.
-- Assumes nothing.
use Prim.Native.Nat.{ℕ, zero, suc, ◌+◌, ◌*◌, ◌/◌, ◌^◌, ◌≤◌, ◌<◌, max}
use mathlib.Core.Path.{◌≡◌, refl, ap}
use mathlib.Core.Bool.{Bool, true, false}
use native.Mathlib.Omega.{arith}
use native.Mathlib.Nat.{pow-suc, pow-le-pow_right, le-max_right}
use lib.ListN.{length}
use lib.Dec.{leb, ltb}
use borrow.Author.Tests.{lt-ltb, le-ltb, leb-true, leb-false, ltb-true, ltb-false}
use Rattle.digits.specs.Digits.{IsField, value_of, digits_of, width_step, width_by, width, decimal}
use Rattle.digits.proofs.Values.{digits-length, digits-all, digits-back}

-- fuel that is enough is as good as any other that is
stable-by : (f g n : ℕ) (t : Bool) → ltb n 10 ≡ t → (ltb n 10 ≡ false → width_by f (n / 10) ≡ width_by g (n / 10))
    → width_step t (width_by f) n ≡ width_step t (width_by g) n
stable-by f g n true e ih = refl
stable-by f g n false e ih = ap suc (ih e)

stable : (f g n : ℕ) → n ≤ f → n ≤ g → width_by f n ≡ width_by g n
unfolding width_by
stable zero zero n h k = refl
stable zero (suc g) n h k = rw (lt-ltb n 10 (omega arith))
stable (suc f) zero n h k = rw (lt-ltb n 10 (omega arith))
stable (suc f) (suc g) n h k =
    stable-by f g n (ltb n 10) refl (λ e. let l = ltb-false n 10 e in stable f g (n / 10) (omega arith) (omega arith))

-- a number below 10 has one digit, any other one more than its tenth
pub width_small : (n : ℕ) → n < 10 → width n ≡ 1
unfolding width width_by
width_small zero h = refl
width_small (suc n) h = rw (lt-ltb (suc n) 10 h)

pub width-large : (n : ℕ) → 10 ≤ n → width n ≡ suc (width (n / 10))
unfolding width width_by
width-large zero h = absurd (omega arith)
width-large (suc n) h = rw (le-ltb (suc n) 10 h) (ap suc (stable n (suc n / 10) (suc n / 10) (omega arith) (omega arith)))

-- what holds below 10, and of a number where it holds of its tenth, holds of all
module _ (P : ℕ → Type 0) (small : (n : ℕ) → n < 10 → P n) (large : (n : ℕ) → 10 ≤ n → P (n / 10) → P n) where
  tenths-by : (f n : ℕ) (t : Bool) → ltb n 10 ≡ t → n ≤ suc f → ((m : ℕ) → m ≤ f → P m) → P n
  tenths-by f n true e h ih = small n (ltb-true n 10 e)
  tenths-by f n false e h ih = let l = ltb-false n 10 e in large n l (ih (n / 10) (omega arith))

  tenths-to : (f n : ℕ) → n ≤ f → P n
  tenths-to zero n h = small n (omega arith)
  tenths-to (suc f) n h = tenths-by f n (ltb n 10) refl h (tenths-to f)

  pub tenths : (n : ℕ) → P n
  tenths n = tenths-to n n (omega arith)

pub width_some : (n : ℕ) → 0 < width n
width_some = tenths (λ n. 0 < width n) (λ n h. omega (arith, width_small n h)) (λ n h ih. omega (arith, width-large n h))

-- enough digits
pub width-enough : (n : ℕ) → n < 10 ^ width n
width-enough =
    tenths (λ n. n < 10 ^ width n)
    (λ n h. rw (width_small n h) (omega arith))
    (λ n h ih. rw (width-large n h, pow-suc) (omega arith))

-- no fewer would be
at-most-by : (n w : ℕ) → 10 ≤ n → ((v : ℕ) → 0 < v → n / 10 < 10 ^ v → width (n / 10) ≤ v)
    → 0 < w → n < 10 ^ w → width n ≤ w
at-most-by n zero h ih p k = absurd (omega arith)
at-most-by n (suc zero) h ih p k = absurd (omega arith)
at-most-by n (suc (suc v)) h ih p k =
    let q : 10 ^ suc (suc v) ≡ 10 ^ suc v * 10 = pow-suc 10 (suc v) in
    omega (arith, width-large n h, ih (suc v) (omega arith) (omega arith))

pub width-at-most : (n w : ℕ) → 0 < w → n < 10 ^ w → width n ≤ w
width-at-most =
    tenths (λ n. (w : ℕ) → 0 < w → n < 10 ^ w → width n ≤ w)
    (λ n h w p k. omega (arith, width_small n h))
    (λ n h ih w p k. at-most-by n w h ih p k)

-- a number that has k + 1 digits or more is not below 10 ^ k
more_by : (n k : ℕ) (t : Bool) → leb (width n) k ≡ t → 10 ^ k ≤ n → k < width n
more_by n k true e h = absurd (omega (arith, width-enough n, pow-le-pow_right {n = 10} (omega arith) (leb-true (width n) k e)))
more_by n k false e h = leb-false (width n) k e

-- from the logarithm: that of 1 is 0's too
pub width_log : (n m k : ℕ) → m ≡ max n 1 → 10 ^ k ≤ m → m < 10 * 10 ^ k → width n ≡ k + 1
width_log n m zero e lo hi = omega (arith, width_some n, width-at-most n 1 (omega arith) (omega arith))
width_log n m (suc k) e lo hi =
    let p : 10 ^ suc k ≡ 10 ^ k * 10 = pow-suc 10 k in
    let q : 10 ^ suc (suc k) ≡ 10 ^ suc k * 10 = pow-suc 10 (suc k) in
    let some : 1 ≤ 10 ^ k = pow-le-pow_right {n = 10} (omega arith) {i = 0} {j = k} (omega arith) in
    omega (arith, more_by n (suc k) (leb (width n) (suc k)) refl (omega arith), width-at-most n (suc (suc k)) (omega arith) (omega arith))

-- ---- k digits at least
pub decimal_length : (k n : ℕ) → length (decimal k n) ≡ max k (width n)
unfolding decimal
decimal_length k n = digits-length (max k (width n)) n

pub decimal_back : (k n : ℕ) → value_of (decimal k n) ≡ n
unfolding decimal
decimal_back k n =
    digits-back (max k (width n)) n
    (omega (arith, width-enough n, pow-le-pow_right {n = 10} (omega arith) (le-max_right k (width n))))

-- a number written is a field
pub digits-field : (k n : ℕ) → 0 < k → IsField (digits_of k n)
digits-field k n h = record { some = omega (arith, digits-length k n); digits = digits-all k n }

pub decimal-field : (k n : ℕ) → IsField (decimal k n)
unfolding decimal
decimal-field k n = digits-field (max k (width n)) n (omega (arith, width_some n))
