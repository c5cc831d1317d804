-- Numbers as bytes, low byte first, over any width (BEHAVIOUR: Shot lists): unsigned, and signed in two's complement.
-- Assumes nothing.
use Rattle.std.specs.Prelude.{ℕ, zero, suc, ◌+◌, ◌-◌, ◌*◌, ◌/◌, ◌%◌, ◌^◌, ◌≤◌, ◌<◌, ◌≡◌, List, [], ◌∷◌, cond, ltb, length, get_or, ℤ, pos, negsuc, neg_ℤ}

-- a list of bytes
abbrev pub Bytes : List ℕ → Type 0
Bytes l = (i : ℕ) → get_or l i 0 < 256

-- what bytes are worth, low byte first
unfoldable pub worth : List ℕ → ℕ
worth [] = 0
worth (b ∷ l) = b + 256 * worth l

-- a number of w bytes as a signed one: the lower half stand for themselves, the upper half for what they are less 256 ^ w
unfoldable pub signed_of : (w n : ℕ) → ℤ
signed_of w n = cond (ltb (2 * n) (256 ^ w)) (pos n) (neg_ℤ (pos (256 ^ w - n)))

-- l are the w bytes of the number n
pub record Unsigned (w n : ℕ) (l : List ℕ) : Type 0 where
  pub long : length l ≡ w
  pub bytes : Bytes l
  pub is : worth l ≡ n

-- l are the w bytes of the signed number z
pub record Signed (w : ℕ) (z : ℤ) (l : List ℕ) : Type 0 where
  pub long : length l ≡ w
  pub bytes : Bytes l
  pub is : signed_of w (worth l) ≡ z

-- the signed numbers that w bytes hold
abbrev pub Within : (w : ℕ) → ℤ → Type 0
Within w (pos n) = 2 * n < 256 ^ w
Within w (negsuc n) = 2 * suc n ≤ 256 ^ w

-- ---- a number's bytes, as they are written

-- the w lowest bytes of n
unfoldable pub low_bytes : (w n : ℕ) → List ℕ
low_bytes zero n = []
low_bytes (suc w) n = n % 256 ∷ low_bytes w (n / 256)

-- the number of w bytes that stands for a signed one which they hold
unfoldable pub twos_of : (w : ℕ) → ℤ → ℕ
twos_of w (pos n) = n
twos_of w (negsuc n) = 256 ^ w - suc n

-- the w bytes of a signed number
abbrev pub signed_bytes : (w : ℕ) → ℤ → List ℕ
signed_bytes w z = low_bytes w (twos_of w z)
