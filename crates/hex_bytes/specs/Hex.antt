-- Bytes as HEX (docs/ASK.md): two digits a byte, the high one first; `-` for none at all.
-- Assumes nothing.
use Rattle.std.specs.Prelude.{ℕ, ◌+◌, ◌*◌, ◌/◌, ◌%◌, List, [], ◌∷◌, Bool, false, cond, ◌&&◌, length, eqb, leb, Option, Some, None}
use Rattle.hex_bytes.specs.Digits.{hex_value, all_hex_digits, lower_digit}

-- ---- taken
-- HEX is a single `-`, or digits, an even number of them and not none
unfoldable pub is_hex : List ℕ → Bool
is_hex [] = false
is_hex (b ∷ []) = eqb b 45
is_hex (b ∷ c ∷ text) = eqb (length text % 2) 0 && all_hex_digits (b ∷ c ∷ text)

-- what digits are worth by twos, the high one first; one that is left over counts nothing
unfoldable pub pair_bytes : List ℕ → List ℕ
pair_bytes [] = []
pair_bytes (b ∷ []) = []
pair_bytes (b ∷ c ∷ text) = (16 * hex_value b + hex_value c) ∷ pair_bytes text

-- the bytes of HEX; of a text that is none, no bytes
unfoldable pub bytes_of_hex : List ℕ → List ℕ
bytes_of_hex text = cond (is_hex text) (pair_bytes text) []

-- is the text HEX whose bytes have room in a buffer of `total` bytes?
abbrev pub is_taken : (text : List ℕ) (total : ℕ) → Bool
is_taken text total = is_hex text && leb (length (bytes_of_hex text)) total

-- the answer: how many bytes, where it is
unfoldable pub hexed_of : (text : List ℕ) (total : ℕ) → Option ℕ
hexed_of text total = cond (is_taken text total) (Some (length (bytes_of_hex text))) None

-- ---- shown
-- two digits for each byte, the high one first
unfoldable pub digit_pairs : (bytes : List ℕ) → List ℕ
digit_pairs [] = []
digit_pairs (b ∷ bytes) = lower_digit (b / 16) ∷ lower_digit (b % 16) ∷ digit_pairs bytes

-- the HEX that is shown of bytes
unfoldable pub hex_text : (bytes : List ℕ) → List ℕ
hex_text [] = 45 ∷ []
hex_text (b ∷ bytes) = digit_pairs (b ∷ bytes)
