-- How long the parts of a text are: a sign, a number in as many digits as are asked for, or more where it is wider, a clock.
-- Assumes nothing.
use Prim.Native.Nat.{ℕ, ◌+◌, ◌^◌, ◌≤◌, ◌<◌, max}
use mathlib.Core.Path.{◌≡◌, refl}
use mathlib.Core.List.{◌++◌}
use mathlib.Core.Bool.{Bool, true, false}
use native.Mathlib.Omega.{arith}
use native.Mathlib.Nat.{max-eq_left}
use lib.ListN.{length, length-append}
use Rattle.digits.specs.Digits.{digits_of, width, decimal}
use Rattle.digits.proofs.Width.{width-at-most, decimal_length}
use Rattle.written.specs.Parts.{sign_text, padded_text, field_text}
use Rattle.written.specs.Clock.{clock_text}

-- a sign is one byte at most
pub sign-most : (minus : Bool) → length (sign_text minus) ≤ 1
sign-most true = omega arith
sign-most false = omega arith

-- no number of the machine is wider than 20 digits
pub wide-most : (k n w : ℕ) → k ≤ 20 → n < 2 ^ 64 → w ≡ max k (width n) → w ≤ 20
wide-most k n w h b e = omega (arith, width-at-most n 20 (omega arith) (omega arith))

-- a number laid down in as many digits as `width_of` answers
pub decimal-wide : (k n w : ℕ) → w ≡ max k (width n) → digits_of w n ≡ decimal k n
unfolding decimal
decimal-wide k n w e = rw e

-- a number that has no more digits than are asked for is written in just as many
pub decimal-short : (k n : ℕ) → 0 < k → n < 10 ^ k → decimal k n ≡ digits_of k n
unfolding decimal
decimal-short k n p h = rw (max-eq_left {n = k} {m = width n} (width-at-most n k p h))

-- a number with its sign
pub padded-length : (minus : Bool) (k m : ℕ) → length (padded_text minus k m) ≡ length (sign_text minus) + max k (width m)
padded-length minus k m = omega (arith, length-append (sign_text minus) (decimal k m), decimal_length k m)

pub padded-most : (minus : Bool) (k m : ℕ) → k ≤ 20 → m < 2 ^ 64 → length (padded_text minus k m) ≤ 21
padded-most minus k m h b = omega (arith, padded-length minus k m, sign-most minus, wide-most k m _ h b refl)

-- a field, its mark not counted
pub field-most : (n : ℕ) → n < 2 ^ 64 → length (decimal 2 n) ≤ 20
field-most n b = wide-most 2 n _ (omega arith) b (decimal_length 2 n)

-- hours, minutes and seconds
module _ (minus : Bool) (h m s : ℕ) where
  pub clock-length : length (clock_text minus h m s) ≡ length (padded_text minus 2 h) + length (field_text 58 m) + length (field_text 58 s)
  unfolding clock_text
  clock-length =
      omega (arith, length-append (padded_text minus 2 h) (field_text 58 m ++ field_text 58 s), length-append (decimal 2 m) (field_text 58 s))

  pub clock-most : h < 2 ^ 64 → m < 2 ^ 64 → s < 2 ^ 64 → length (clock_text minus h m s) ≤ 63
  clock-most a b c = omega (arith, clock-length, padded-most minus 2 h (omega arith) a, field-most m b, field-most s c)
