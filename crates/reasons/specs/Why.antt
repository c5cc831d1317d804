-- Why a text was turned down (BEHAVIOUR: Why): the reader's answer, the fact behind it, and the length of its phrase; 8 where that has no room.
-- Assumes nothing.
use Rattle.answers.specs.declared.Refusal.{Refusal}
use Rattle.reasons.specs.declared.Reason.{Reason}
use Rattle.std.specs.Prelude.{ℕ, List, Option, Result, Ok, Err}
use Rattle.timecodes.specs.declared.kinds.Kind.{Kind}
use Rattle.written.specs.Written.{Text, answer_to}
use Rattle.phrases.specs.Phrases.{phrase_of}
use Rattle.reading.specs.declared.Read.{Read}
use Rattle.reading.specs.Answer.{number_of}
use Rattle.reading.specs.Shaped.{shape_of}
use Rattle.reading.specs.For.{read_for}
use Rattle.reasons.specs.declared.Fact.{Fact}
use Rattle.reasons.specs.Facts.{fact_by}

-- the fact behind the number that the reader gives
unfoldable pub fact_of : Kind → (text : List ℕ) → Option ℕ → (rate : ℕ) → Option Fact
fact_of kind text stated rate = fact_by (number_of (read_for kind text stated rate)) rate stated (shape_of stated text)

-- the phrase of that number
abbrev pub phrase_for : Kind → (text : List ℕ) → Option ℕ → (rate : ℕ) → List ℕ
phrase_for kind text stated rate = phrase_of (number_of (read_for kind text stated rate))

-- told with the phrase's length, or refused for want of room
abbrev pub told_as : Result Read Refusal → Option Fact → Result ℕ Refusal → Result Reason Refusal
told_as read fact (Ok n) = Ok (record { read = read; fact = fact; length = n })
told_as read fact (Err e) = Err e

unfoldable pub why_of : Kind → (text : List ℕ) → Option ℕ → (rate : ℕ) → (line : List ℕ) (place : ℕ) → Result Reason Refusal
why_of kind text stated rate line place =
    told_as (read_for kind text stated rate) (fact_of kind text stated rate) (answer_to line place (Text (phrase_for kind text stated rate)))
