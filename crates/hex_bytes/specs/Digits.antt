-- The digits of HEX (docs/ASK.md): which bytes they are, what each is worth, and the one that is shown for a value.
-- Assumes nothing.
use Rattle.std.specs.Prelude.{ℕ, ◌+◌, ◌-◌, List, [], ◌∷◌, Bool, true, cond, ◌&&◌, leb, ltb}

-- a byte from `first` to `last`
abbrev pub is_from_to : (first last b : ℕ) → Bool
is_from_to first last b = leb first b && leb b last

-- what a digit is worth: '0' to '9' are 0 to 9, 'a' to 'f' and 'A' to 'F' are 10 to 15; 16 for a byte that is no digit
unfoldable pub hex_value : (b : ℕ) → ℕ
hex_value b = cond (is_from_to 48 57 b) (b - 48) (cond (is_from_to 97 102 b) (10 + (b - 97)) (cond (is_from_to 65 70 b) (10 + (b - 65)) 16))

-- every byte is a digit
unfoldable pub all_hex_digits : List ℕ → Bool
all_hex_digits [] = true
all_hex_digits (b ∷ l) = ltb (hex_value b) 16 && all_hex_digits l

-- the digit that is shown for a value below 16: lower case
unfoldable pub lower_digit : (n : ℕ) → ℕ
lower_digit n = cond (ltb n 10) (48 + n) (97 + (n - 10))
