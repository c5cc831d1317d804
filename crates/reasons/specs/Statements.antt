-- What is told of a text (BEHAVIOUR: Why): the reader's own number and place, a fact that holds of the text, and its phrase. Proofs:
-- proofs/Statements.antt.
-- Assumes nothing.
use Rattle.std.specs.Prelude.{ℕ, ◌+◌, ◌^◌, ◌<◌, ◌≡◌, ◌↔◌, List, length, Option, Ok, Err, Some}
use Rattle.lent.specs.Line.{splice}
use Rattle.answers.specs.declared.Refusal.{Refusal}
use Rattle.answers.specs.Refusals.{no_room}
use Rattle.timecodes.specs.declared.kinds.Kind.{Kind}
use Rattle.written.specs.Written.{Text, line_to}
use Rattle.phrases.specs.Phrases.{phrase_of}
use Rattle.reading.specs.Answer.{number_of, place_of}
use Rattle.reading.specs.For.{read_for}
use Rattle.faults.specs.declared.Fault.{Fault}
use Rattle.reasons.specs.declared.Fact.{Fact}
use Rattle.reasons.specs.declared.Fact.TheVariants.{Limit}
use Rattle.reasons.specs.declared.Reason.{Reason}
use Rattle.reasons.specs.Why.{phrase_for, why_of}
use Rattle.reasons.specs.Holds.{FactHolds}

-- what is told holds the reader's own answer, and so its number and its place; of an accepted text its timecode
abbrev pub ReadersOwn : Type 0
ReadersOwn =
    (kind : Kind) (l : List ℕ) (stated : Option ℕ) (rate : ℕ) (line : List ℕ) (place : ℕ) (r : Reason)
    → why_of kind l stated rate line place ≡ Ok r
    → (r.read ≡ read_for kind l stated rate)
    × ((number_of r.read ≡ number_of (read_for kind l stated rate)) × (place_of r.read ≡ place_of (read_for kind l stated rate)))

-- the fact that is told holds of the text, by the number that the reader gives
abbrev pub FactTold : Type 0
FactTold =
    (kind : Kind) (l : List ℕ) (stated : Option ℕ) (rate : ℕ) (line : List ℕ) (place : ℕ) (r : Reason)
    → why_of kind l stated rate line place ≡ Ok r → FactHolds l stated rate (number_of (read_for kind l stated rate)) r.fact

-- and it is the only one: any fact that holds of the text by that number is the one told
abbrev pub OneFact : Type 0
OneFact =
    (kind : Kind) (l : List ℕ) (stated : Option ℕ) (rate : ℕ) (line : List ℕ) (place : ℕ) (r : Reason) (f : Option Fact)
    → why_of kind l stated rate line place ≡ Ok r → FactHolds l stated rate (number_of (read_for kind l stated rate)) f → f ≡ r.fact

-- a limit and a value that are told fit 64 bits with their sign
abbrev pub FactFits : Type 0
FactFits =
    (kind : Kind) (l : List ℕ) (stated : Option ℕ) (rate : ℕ) (line : List ℕ) (place : ℕ) (r : Reason) (f : Fault)
    → why_of kind l stated rate line place ≡ Ok r → r.fact ≡ Some (Limit f) → (f.limit < 2 ^ 63) × (f.value < 2 ^ 63)

-- the phrase of the reader's number stands in the line from its place on, and the length told is its length
abbrev pub PhraseTold : Type 0
PhraseTold =
    (kind : Kind) (l : List ℕ) (stated : Option ℕ) (rate : ℕ) (line : List ℕ) (place : ℕ) (r : Reason)
    → why_of kind l stated rate line place ≡ Ok r
    → (r.length ≡ length (phrase_of (number_of (read_for kind l stated rate))))
    × (line_to line place (Text (phrase_for kind l stated rate)) ≡ splice line place (phrase_of (number_of (read_for kind l stated rate))))

-- nothing is told, and 8 is given, exactly when place plus the phrase's length exceeds the line's length
abbrev pub WhyRefused : Type 0
WhyRefused =
    (kind : Kind) (l : List ℕ) (stated : Option ℕ) (rate : ℕ) (line : List ℕ) (place : ℕ) (e : Refusal)
    → (why_of kind l stated rate line place ≡ Err e) ↔ ((e ≡ no_room) × (length line < place + length (phrase_for kind l stated rate)))

-- then no byte of the line changes
abbrev pub WhyKeeps : Type 0
WhyKeeps =
    (kind : Kind) (l : List ℕ) (stated : Option ℕ) (rate : ℕ) (line : List ℕ) (place : ℕ) (e : Refusal)
    → why_of kind l stated rate line place ≡ Err e → line_to line place (Text (phrase_for kind l stated rate)) ≡ line
