-- What HEX is made of (docs/ASK.md), as a grammar: no reader stands in it.
-- Assumes nothing.
use Rattle.std.specs.Prelude.{ℕ, ◌+◌, ◌*◌, ◌<◌, List, [], ◌∷◌}

-- a digit, and what it is worth
pub data HexDigit : (b n : ℕ) → Type 0 where
  figure : {n : ℕ} → n < 10 → HexDigit (48 + n) n
  small : {n : ℕ} → n < 6 → HexDigit (97 + n) (10 + n)
  capital : {n : ℕ} → n < 6 → HexDigit (65 + n) (10 + n)

-- two digits for each byte, the high one first
pub data Pairs : (text bytes : List ℕ) → Type 0 where
  none : Pairs [] []
  pair : {b c m n : ℕ} {text bytes : List ℕ} → HexDigit b m → HexDigit c n → Pairs text bytes → Pairs (b ∷ c ∷ text) ((16 * m + n) ∷ bytes)

-- a text and its bytes: `-` for none, else two digits for each
pub data Hex : (text bytes : List ℕ) → Type 0 where
  dash : Hex (45 ∷ []) []
  some : {b : ℕ} {text bytes : List ℕ} → Pairs (b ∷ text) bytes → Hex (b ∷ text) bytes
