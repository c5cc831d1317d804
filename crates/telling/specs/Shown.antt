-- How a text is shown, and its place (docs/WHY.md): one column for one byte, and no control byte.
-- Assumes nothing.
use Rattle.std.specs.Prelude.{ℕ, zero, suc, List, [], ◌∷◌, Bool, cond, ◌&&◌, ◌||◌, leb, eqb}
use Rattle.streams.specs.Pieces.{line_end}

-- printable ASCII as it is, any other byte as `?`
abbrev pub is_printable : ℕ → Bool
is_printable b = leb 32 b && leb b 126

unfoldable pub shown_byte : ℕ → ℕ
shown_byte b = cond (is_printable b) b 63

-- a text as a line, byte by byte
unfoldable pub shown_pieces : (text : List ℕ) → List (List ℕ)
shown_pieces [] = line_end ∷ []
shown_pieces (b ∷ text) = (shown_byte b ∷ []) ∷ shown_pieces text

-- a line with `^` under the byte at a place
unfoldable pub caret_pieces : (place : ℕ) → List (List ℕ)
caret_pieces zero = (94 ∷ line_end) ∷ []
caret_pieces (suc place) = (32 ∷ []) ∷ caret_pieces place

-- only refusals 1 and 2 have a place
abbrev pub has_place : (number : ℕ) → Bool
has_place number = eqb number 1 || eqb number 2

unfoldable pub place_pieces : (number place : ℕ) → List (List ℕ)
place_pieces number place = cond (has_place number) (caret_pieces place) []
