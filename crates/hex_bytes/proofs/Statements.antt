-- The statements of specs/Statements.antt: HEX is taken as the grammar has it, and what is shown is read back.
-- Assumes nothing.
use Prim.Native.Nat.{ℕ, ◌<◌}
use mathlib.Core.Path.{◌≡◌, refl, sym, ◌∙◌}
use mathlib.Core.List.{List}
use mathlib.Core.Bool.{Bool, true, false}
use lib.ListN.{get_or}
use Rattle.hex_bytes.specs.Digits.{lower_digit}
use Rattle.hex_bytes.specs.Hex.{is_hex, bytes_of_hex, digit_pairs, hex_text}
use Rattle.hex_bytes.specs.Statements.{HexExactly, HexOne, HexBack, HexBytes, HexLower}
use Rattle.hex_bytes.specs.Grammar.{dash}
use Rattle.hex_bytes.proofs.Taking.{bytes-none}
use Rattle.hex_bytes.proofs.Grammar.{hex-taken, hex-found, hex-below, hex-shown}

pub hex_exactly : HexExactly
hex_exactly text bytes = (λ p. rw p.1 at (hex-found text p.0), hex-taken text bytes)

pub hex_one : HexOne
hex_one text a b p q = sym (hex-taken text a p).1 ∙ (hex-taken text b q).1

pub hex_back : HexBack
hex_back bytes h = hex-taken (hex_text bytes) bytes (hex-shown bytes h)

below_by : (text : List ℕ) (t : Bool) → is_hex text ≡ t → (i : ℕ) → get_or (bytes_of_hex text) i 0 < 256
below_by text true e i = hex-below (hex-found text e) i
below_by text false e i = rw (bytes-none text e) (hex-below dash i)

pub hex_bytes : HexBytes
hex_bytes text i = below_by text (is_hex text) refl i

pub hex_lower : HexLower
unfolding hex_text digit_pairs lower_digit
hex_lower = (refl, refl)
