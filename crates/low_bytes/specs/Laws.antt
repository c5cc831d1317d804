-- Laws of numbers as bytes, over every width (BEHAVIOUR: Shot lists). What bytes are worth: proofs/Worth.antt.
-- Assumes nothing.
use Rattle.std.specs.Prelude.{ℕ, zero, suc, ◌+◌, ◌-◌, ◌*◌, ◌/◌, ◌%◌, ◌^◌, ◌≤◌, ◌<◌, ◌≡◌, List, [], ◌∷◌, Bool, cond, ltb, length, take, drop, ℤ, pos, negsuc, neg_ℤ, nat_abs}
use Rattle.std.proofs.Math.Path.{refl, ap}
use Rattle.std.proofs.Common.{◌∙◌, arith, lt-ltb, le-ltb, ltb-true, ltb-false, get_or-drop}
use Rattle.std.proofs.Math.Bool.{true, false}
use Rattle.numbers.specs.Sign.{is_neg}
use Rattle.low_bytes.specs.LowBytes.{Bytes, signed_of, Within, low_bytes, twos_of}

-- ---- bytes

pub bytes-tail : (b : ℕ) (l : List ℕ) → Bytes (b ∷ l) → Bytes l
bytes-tail b l h i = h (suc i)

pub bytes-cons : (b : ℕ) (l : List ℕ) → b < 256 → Bytes l → Bytes (b ∷ l)
bytes-cons b l h k zero = h
bytes-cons b l h k (suc i) = k i

pub bytes-nil : Bytes []
bytes-nil zero = omega arith
bytes-nil (suc i) = omega arith

pub bytes_drop : (n : ℕ) (l : List ℕ) → Bytes l → Bytes (drop n l)
bytes_drop n l h i = rw (get_or-drop n l i 0) (h (n + i))

pub bytes_take : (n : ℕ) (l : List ℕ) → Bytes l → Bytes (take n l)
bytes_take zero l h = bytes-nil
bytes_take (suc n) [] h = bytes-nil
bytes_take (suc n) (b ∷ l) h = bytes-cons b (take n l) (h 0) (bytes_take n l (bytes-tail b l h))

-- ---- the bytes of a number

pub low-length : (w n : ℕ) → length (low_bytes w n) ≡ w
unfolding low_bytes
low-length zero n = refl
low-length (suc w) n = ap suc (low-length w (n / 256))

pub low-bytes : (w n : ℕ) → Bytes (low_bytes w n)
unfolding low_bytes
low-bytes zero n = bytes-nil
low-bytes (suc w) n = bytes-cons (n % 256) (low_bytes w (n / 256)) (omega arith) (low-bytes w (n / 256))

-- ---- signed

pub signed_low : (w n : ℕ) → 2 * n < 256 ^ w → signed_of w n ≡ pos n
unfolding signed_of
signed_low w n h = rw (lt-ltb (2 * n) (256 ^ w) h)

pub signed_high : (w n : ℕ) → 256 ^ w ≤ 2 * n → signed_of w n ≡ neg_ℤ (pos (256 ^ w - n))
unfolding signed_of
signed_high w n h = rw (le-ltb (2 * n) (256 ^ w) h)

pub twos-below : (w : ℕ) (z : ℤ) → Within w z → twos_of w z < 256 ^ w
unfolding twos_of
twos-below w (pos n) h = omega arith
twos-below w (negsuc n) h = omega arith

-- less than nothing: the one below is its own
pub neg-one-less : (m : ℕ) → 0 < m → neg_ℤ (pos m) ≡ negsuc (m - 1)
neg-one-less zero h = absurd (omega arith)
neg-one-less (suc m) h = ap negsuc (omega arith)

pub signed-twos : (w : ℕ) (z : ℤ) → Within w z → signed_of w (twos_of w z) ≡ z
unfolding twos_of
signed-twos w (pos n) h = signed_low w n h
signed-twos w (negsuc n) h =
    signed_high w (256 ^ w - suc n) (omega arith)
    ∙ neg-one-less (256 ^ w - (256 ^ w - suc n)) (omega arith)
    ∙ ap negsuc (omega arith)

module _ (w n : ℕ) (h : n < 256 ^ w) where
  twos-by : (t : Bool) → ltb (2 * n) (256 ^ w) ≡ t → twos_of w (cond t (pos n) (neg_ℤ (pos (256 ^ w - n)))) ≡ n
  unfolding twos_of
  twos-by true e = refl
  twos-by false e = ap (twos_of w) (neg-one-less (256 ^ w - n) (omega arith)) ∙ (omega arith)

  pub twos-signed : twos_of w (signed_of w n) ≡ n
  unfolding signed_of
  twos-signed = twos-by (ltb (2 * n) (256 ^ w)) refl

  within_by : (t : Bool) → ltb (2 * n) (256 ^ w) ≡ t → Within w (cond t (pos n) (neg_ℤ (pos (256 ^ w - n))))
  within_by true e = ltb-true (2 * n) (256 ^ w) e
  within_by false e =
      let half = ltb-false (2 * n) (256 ^ w) e in
      rw (neg-one-less (256 ^ w - n) (omega arith)) (omega arith)

  pub signed-within : Within w (signed_of w n)
  unfolding signed_of
  signed-within = within_by (ltb (2 * n) (256 ^ w)) refl

-- ---- by sign and magnitude, as the code goes

pub twos-pos : (w : ℕ) (z : ℤ) → is_neg z ≡ false → twos_of w z ≡ nat_abs z
unfolding twos_of
twos-pos w (pos n) e = refl
twos-pos w (negsuc n) e = let z : ◌≡◌ {A = ℕ} 0 1 = cc in absurd (omega arith)

pub twos-neg : (w : ℕ) (z : ℤ) → is_neg z ≡ true → twos_of w z ≡ 256 ^ w - nat_abs z
unfolding twos_of
twos-neg w (pos n) e = let z : ◌≡◌ {A = ℕ} 0 1 = cc in absurd (omega arith)
twos-neg w (negsuc n) e = refl
