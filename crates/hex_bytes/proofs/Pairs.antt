-- Digits by twos: how many bytes they have, and each byte by its two digits; and the same for what is shown.
-- Assumes nothing.
use Prim.Native.Nat.{ℕ, zero, suc, ◌+◌, ◌*◌, ◌/◌, ◌%◌, ◌<◌}
use mathlib.Core.Path.{◌≡◌, refl}
use mathlib.Core.List.{List, [], ◌∷◌}
use mathlib.Core.Bool.{true}
use native.Mathlib.Omega.{arith}
use lib.ListN.{length, get_or}
use lib.Dec.{ltb}
use borrow.Author.Tests.{lt-ltb, ltb-true}
use Rattle.digits.proofs.Values.{both}
use Rattle.hex_bytes.specs.Digits.{hex_value, all_hex_digits, lower_digit}
use Rattle.hex_bytes.specs.Hex.{pair_bytes, digit_pairs, hex_text}

-- ---- all digits
pub all-hex-cons : (b : ℕ) (l : List ℕ) → hex_value b < 16 → all_hex_digits l ≡ true → all_hex_digits (b ∷ l) ≡ true
unfolding all_hex_digits
all-hex-cons b l h e = rw (lt-ltb (hex_value b) 16 h, e)

pub all-hex-head : (b : ℕ) (l : List ℕ) → all_hex_digits (b ∷ l) ≡ true → hex_value b < 16
unfolding all_hex_digits
all-hex-head b l e = ltb-true (hex_value b) 16 (both (ltb (hex_value b) 16) (all_hex_digits l) e).0

pub all-hex-tail : (b : ℕ) (l : List ℕ) → all_hex_digits (b ∷ l) ≡ true → all_hex_digits l ≡ true
unfolding all_hex_digits
all-hex-tail b l e = (both (ltb (hex_value b) 16) (all_hex_digits l) e).1

-- each of them is one
pub all-hex-each : (l : List ℕ) (i : ℕ) → all_hex_digits l ≡ true → i < length l → hex_value (get_or l i 0) < 16
all-hex-each [] i e h = absurd (omega arith)
all-hex-each (b ∷ l) zero e h = all-hex-head b l e
all-hex-each (b ∷ l) (suc i) e h = all-hex-each l i (all-hex-tail b l e) (omega arith)

-- ---- the bytes of digits
pub pair-bytes-length : (l : List ℕ) → length (pair_bytes l) ≡ length l / 2
unfolding pair_bytes
pair-bytes-length [] = refl
pair-bytes-length (b ∷ []) = refl
pair-bytes-length (b ∷ c ∷ l) = omega (arith, pair-bytes-length l)

-- the byte at i has its digits at 2 i and behind it
pub pair-bytes-each : (l : List ℕ) (i : ℕ) → i < length l / 2
    → get_or (pair_bytes l) i 0 ≡ 16 * hex_value (get_or l (2 * i) 0) + hex_value (get_or l (2 * i + 1) 0)
unfolding pair_bytes
pair-bytes-each [] i h = absurd (omega arith)
pair-bytes-each (b ∷ []) i h = absurd (omega arith)
pair-bytes-each (b ∷ c ∷ l) zero h = refl
pair-bytes-each (b ∷ c ∷ l) (suc i) h =
    let p : 2 * suc i ≡ suc (suc (2 * i)) = omega arith in
    let q : suc (suc (2 * i)) + 1 ≡ suc (suc (2 * i + 1)) = omega arith in
    rw (p, q) (pair-bytes-each l i (omega arith))

-- ---- the digits of bytes
pub digit-pairs-length : (l : List ℕ) → length (digit_pairs l) ≡ 2 * length l
unfolding digit_pairs
digit-pairs-length [] = refl
digit-pairs-length (b ∷ l) = omega (arith, digit-pairs-length l)

-- those of the byte at i stand at 2 i and behind it
pub digit-pairs-high : (l : List ℕ) (i : ℕ) → i < length l → get_or (digit_pairs l) (2 * i) 0 ≡ lower_digit (get_or l i 0 / 16)
unfolding digit_pairs
digit-pairs-high [] i h = absurd (omega arith)
digit-pairs-high (b ∷ l) zero h = refl
digit-pairs-high (b ∷ l) (suc i) h =
    let p : 2 * suc i ≡ suc (suc (2 * i)) = omega arith in
    rw p (digit-pairs-high l i (omega arith))

pub digit-pairs-low : (l : List ℕ) (i : ℕ) → i < length l → get_or (digit_pairs l) (2 * i + 1) 0 ≡ lower_digit (get_or l i 0 % 16)
unfolding digit_pairs
digit-pairs-low [] i h = absurd (omega arith)
digit-pairs-low (b ∷ l) zero h = refl
digit-pairs-low (b ∷ l) (suc i) h =
    let p : 2 * suc i + 1 ≡ suc (suc (2 * i + 1)) = omega arith in
    rw p (digit-pairs-low l i (omega arith))

-- ---- the HEX of bytes, of none and of some
pub hex-text-none : (l : List ℕ) → length l ≡ 0 → hex_text l ≡ 45 ∷ []
unfolding hex_text
hex-text-none [] h = refl
hex-text-none (b ∷ l) h = absurd (omega arith)

pub hex-text-some : (l : List ℕ) → (length l ≡ 0 → ⊥) → hex_text l ≡ digit_pairs l
unfolding hex_text
hex-text-some [] h = absurd (h refl)
hex-text-some (b ∷ l) h = refl
