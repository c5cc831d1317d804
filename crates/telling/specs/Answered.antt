-- What is answered to a line (docs/WHY.md): a question's or a text's answer, and an empty line, so that answers stand apart.
-- Assumes nothing.
use Rattle.std.specs.Prelude.{ℕ, List, [], ◌∷◌, ◌++◌, Bool, cond, drop, Option, Some, None}
use Rattle.laws.specs.Spelt.{spelt}
use Rattle.telling.specs.declared.told.Way.{Way}
use Rattle.telling.specs.declared.questions.Question.{Question}
use Rattle.streams.specs.Pieces.{line_end}
use Rattle.telling.specs.Shown.{shown_pieces}
use Rattle.telling.specs.Told.{told_pieces}
use Rattle.telling.specs.Question.{question_of}

-- of a line that is no question, or has more bytes than are kept: the line, and what a question is
unfoldable pub other_pieces : (line : List ℕ) → List (List ℕ)
other_pieces line = shown_pieces line ++ ((spelt "not understood: a question is [-p] [-f FORMAT] RATE TEXT" ++ line_end) ∷ [])

-- of a question what is told of its text; one without a text is not understood in a line
abbrev pub text_from : (line : List ℕ) → Way → (text : Option ℕ) → List (List ℕ)
text_from line way (Some at) = told_pieces way (drop at line)
text_from line way None = other_pieces line

abbrev pub asked_pieces : (line : List ℕ) → Option Question → List (List ℕ)
asked_pieces line (Some question) = text_from line question.way question.text
asked_pieces line None = other_pieces line

-- a line that is a question; `over` where it has more bytes than are kept
unfoldable pub question_pieces : (line : List ℕ) (over : Bool) → List (List ℕ)
question_pieces line over = cond over (other_pieces line) (asked_pieces line (question_of line)) ++ (line_end ∷ [])

-- a line that is a text, read in a way that was given before
unfoldable pub text_pieces : Way → (line : List ℕ) (over : Bool) → List (List ℕ)
text_pieces way line over = cond over (other_pieces line) (told_pieces way line) ++ (line_end ∷ [])

-- a line that is a text where the way to read it is given, else a question
abbrev pub answer_pieces : Option Way → (line : List ℕ) (over : Bool) → List (List ℕ)
answer_pieces (Some way) line over = text_pieces way line over
answer_pieces None line over = question_pieces line over
