-- What holds of every writer (BEHAVIOUR: Refusals): a refusal changes nothing, a length is that of the text that stands there. Proofs: proofs/Statements.antt.
-- Assumes nothing.
use Rattle.std.specs.Prelude.{ℕ, ◌+◌, ◌<◌, ◌≡◌, ◌↔◌, List, length, Ok, Err}
use Rattle.lent.specs.Line.{splice}
use Rattle.answers.specs.declared.Refusal.{Refusal}
use Rattle.answers.specs.Order.{Condition, unless, first}
use Rattle.answers.specs.Refusals.{no_room}
use Rattle.answers.specs.Refusals.{number_of}
use Rattle.written.specs.Written.{Draft, Text, NoText, written_when, answer_to, line_to}

-- whichever the refusal, no lent byte changes
abbrev pub RefusedKeeps : Type 0
RefusedKeeps =
    (line : List ℕ) (place : ℕ) (draft : Draft) (e : Refusal) → answer_to line place draft ≡ Err e → line_to line place draft ≡ line

-- the text that is drafted has n bytes, and stands in the line from its place on
pub record Stands (line : List ℕ) (place : ℕ) (draft : Draft) (n : ℕ) : Type 0 where
  pub text : List ℕ
  pub drafted : draft ≡ Text text
  pub long : n ≡ length text
  pub there : line_to line place draft ≡ splice line place text

-- a length answered is that of the drafted text, which stands in the line from its place on
abbrev pub LengthStands : Type 0
LengthStands =
    (line : List ℕ) (place : ℕ) (draft : Draft) (n : ℕ) → answer_to line place draft ≡ Ok n → Stands line place draft n

-- behind conditions, the first that holds refuses, 8 last; else the text's length is answered
abbrev pub AnswerBehind : Type 0
AnswerBehind =
    (conditions : List Condition) (line : List ℕ) (place : ℕ) (text : List ℕ)
    → answer_to line place (unless NoText conditions (Text text)) ≡ unless Err (written_when conditions line place text) (Ok (length text))

-- so the number given is that of the first condition that holds
abbrev pub NumberBehind : Type 0
NumberBehind =
    (conditions : List Condition) (line : List ℕ) (place : ℕ) (text : List ℕ)
    → number_of (answer_to line place (unless NoText conditions (Text text))) ≡ first (written_when conditions line place text)

-- refusal 8 of a text exactly when place plus text length exceeds the line's length
abbrev pub NoRoomExactly : Type 0
NoRoomExactly =
    (line : List ℕ) (place : ℕ) (text : List ℕ)
    → (answer_to line place (Text text) ≡ Err no_room) ↔ (length line < place + length text)
