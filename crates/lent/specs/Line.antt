-- Text in a lent line (BEHAVIOUR: Refusals): what the line holds after a text is laid down from a stated place.
-- Assumes nothing.
use Rattle.std.specs.Prelude.{ℕ, ◌+◌, List, ◌++◌, Bool, cond, length, take, drop, leb}

-- l with the text in place of its first bytes
unfoldable pub front : (l text : List ℕ) → List ℕ
front l text = text ++ drop (length text) l

-- the text at the front of l where it has room; else nothing changes
unfoldable pub laid : (l text : List ℕ) → List ℕ
laid l text = cond (leb (length text) (length l)) (front l text) l

-- l with the text in place of its bytes from `at`
unfoldable pub splice : (l : List ℕ) (at : ℕ) (text : List ℕ) → List ℕ
splice l at text = take at l ++ (text ++ drop (at + length text) l)

-- `need` bytes from `place` on lie within a line of `total` bytes; the sum is that of unbounded numbers
abbrev pub has_room : (total place need : ℕ) → Bool
has_room total place need = leb (place + need) total

-- place plus text length does not exceed the line's length (where it does: refusal 8)
abbrev pub fits : (line : List ℕ) (place : ℕ) (text : List ℕ) → Bool
fits line place text = has_room (length line) place (length text)

-- every text is laid down from a stated place inside the caller's line; a refusal changes no lent byte
unfoldable pub line_after : (line : List ℕ) (place : ℕ) (text : List ℕ) → List ℕ
line_after line place text = cond (fits line place text) (splice line place text) line
