-- What holds of every text that is laid down (BEHAVIOUR: Refusals): the line's length, the text's bytes, the other bytes. Proofs: proofs/Statements.antt.
-- Assumes nothing.
use Rattle.std.specs.Prelude.{ℕ, ◌+◌, ◌≤◌, ◌<◌, ◌≡◌, ◌⊎◌, List, length, get_or}
use Rattle.lent.specs.Line.{laid, line_after}

-- at the front of a part is from place 0
abbrev pub LaidIs : Type 0
LaidIs = (l text : List ℕ) → laid l text ≡ line_after l 0 text

-- the line keeps its length, whether the text fits or not
abbrev pub SameLength : Type 0
SameLength = (line : List ℕ) (place : ℕ) (text : List ℕ) → length (line_after line place text) ≡ length line

-- a text that fits stands there, byte for byte, from its place on
abbrev pub TextThere : Type 0
TextThere =
    (line : List ℕ) (place : ℕ) (text : List ℕ) (i : ℕ) → place + length text ≤ length line → i < length text
    → get_or (line_after line place text) (place + i) 0 ≡ get_or text i 0

-- only its own bytes change: those before its place and those behind it are as they were
abbrev pub OthersStay : Type 0
OthersStay =
    (line : List ℕ) (place : ℕ) (text : List ℕ) (i : ℕ) → (i < place) ⊎ (place + length text ≤ i)
    → get_or (line_after line place text) i 0 ≡ get_or line i 0
