-- What holds of every answer beyond one call (BEHAVIOUR: The line program): the statements. Proofs: proofs/Statements.antt.
-- Assumes nothing.
use Rattle.std.specs.Prelude.{ℕ, ◌≤◌, ◌<◌, ◌≡◌, List, [], ◌∷◌, ◌++◌, false, length, None}
use Rattle.digits.specs.Digits.{digits_of}
use Rattle.reading.specs.Reading.{read_text}
use Rattle.lines.specs.Input.{is_line, line_holds, line_of}
use Rattle.lines.specs.Output.{bytes_of, answer_text, answer_of, text_of}

-- two digits of rate, a space and a text of at most 61 bytes are a line, and it holds what the text reads as at that rate
abbrev pub ReadAtRate : Type 0
ReadAtRate =
    (rate : ℕ) (text : List ℕ) → rate < 100 → length text ≤ 61
    → line_of (digits_of 2 rate ++ (32 ∷ text)) ≡ line_holds (read_text text None rate)

-- a line over 64 bytes, or not so begun, is refused 1, whatever its rate
abbrev pub NotBegun : Type 0
NotBegun = (line : List ℕ) → is_line line ≡ false → answer_text line ≡ bytes_of "refused 1" ++ (10 ∷ [])

-- whatever the line, 47 bytes are room enough for its answer
abbrev pub ShortAnswer : Type 0
ShortAnswer = (line : List ℕ) → length (answer_text line) ≤ 47

-- the answer as a value is laid down as the answer's text
abbrev pub LaidAsText : Type 0
LaidAsText = (line : List ℕ) → text_of (answer_of line) ≡ answer_text line
