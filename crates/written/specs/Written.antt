-- What a writer answers, and the caller's line afterwards (BEHAVIOUR: Refusals): one definition of each, for every text that is written.
-- Assumes nothing.
use Rattle.std.specs.Prelude.{ℕ, List, [], ◌∷◌, ◌++◌, not, length, Result, Ok, Err}
use Rattle.lent.specs.Line.{fits, line_after}
use Rattle.answers.specs.declared.Refusal.{Refusal}
use Rattle.answers.specs.Order.{Condition, when, unless}
use Rattle.answers.specs.Refusals.{no_room}

-- what is to be laid down: a text, or the refusal that leaves none
pub data Draft : Type 0 where
  Text : List ℕ → Draft
  NoText : Refusal → Draft

-- 8: place plus text length exceeds the buffer's length
abbrev pub bad_room : (line : List ℕ) (place : ℕ) (text : List ℕ) → Condition
bad_room line place text = when no_room (not (fits line place text))

-- all that speaks against a text that is written: the conditions that leave none, then 8
abbrev pub written_when : List Condition → (line : List ℕ) (place : ℕ) (text : List ℕ) → List Condition
written_when conditions line place text = conditions ++ (bad_room line place text ∷ [])

-- the answer: 8 comes after every refusal of the draft; else the text's length
unfoldable pub answer_to : (line : List ℕ) (place : ℕ) → Draft → Result ℕ Refusal
answer_to line place (Text text) = unless Err (bad_room line place text ∷ []) (Ok (length text))
answer_to line place (NoText e) = Err e

-- every byte of the line afterwards: the text from its place on; a refusal changes no lent byte
unfoldable pub line_to : (line : List ℕ) (place : ℕ) → Draft → List ℕ
line_to line place (Text text) = line_after line place text
line_to line place (NoText e) = line

-- the length of an answer; a refusal's is 0
abbrev pub length_of : Result ℕ Refusal → ℕ
length_of (Ok n) = n
length_of (Err e) = 0
