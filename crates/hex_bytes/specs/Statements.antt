-- HEX is taken as the grammar has it, and only so; what is shown is read back. Proofs: proofs/Statements.antt.
-- Assumes nothing.
use Rattle.std.specs.Prelude.{ℕ, ◌<◌, ◌≡◌, true, ◌↔◌, List, [], ◌∷◌, get_or}
use Rattle.hex_bytes.specs.Hex.{is_hex, bytes_of_hex, hex_text}
use Rattle.hex_bytes.specs.Grammar.{Hex}

-- a text is taken as HEX of these bytes exactly when the grammar has it so
abbrev pub HexExactly : Type 0
HexExactly = (text bytes : List ℕ) → ((is_hex text ≡ true) × (bytes_of_hex text ≡ bytes)) ↔ Hex text bytes

-- no text is the HEX of two lists of bytes
abbrev pub HexOne : Type 0
HexOne = (text a b : List ℕ) → Hex text a → Hex text b → a ≡ b

-- what is shown of bytes is read back as them
abbrev pub HexBack : Type 0
HexBack = (bytes : List ℕ) → ((i : ℕ) → get_or bytes i 0 < 256) → (is_hex (hex_text bytes) ≡ true) × (bytes_of_hex (hex_text bytes) ≡ bytes)

-- each byte that is taken is below 256
abbrev pub HexBytes : Type 0
HexBytes = (text : List ℕ) (i : ℕ) → get_or (bytes_of_hex text) i 0 < 256

-- lower case is shown, the high digit first, and `-` for none: 01abef of 1, 171, 239
abbrev pub HexLower : Type 0
HexLower = (hex_text (1 ∷ 171 ∷ 239 ∷ []) ≡ 48 ∷ 49 ∷ 97 ∷ 98 ∷ 101 ∷ 102 ∷ []) × (hex_text [] ≡ 45 ∷ [])
