-- How the calculator shows why a text is read as it is (docs/ASK.md): `NUMBER PLACE COUNT LIMIT VALUE LABEL LENGTH LINE`, part by part.
-- Assumes nothing.
use Rattle.answers.specs.Causes.{refusal_number}
use Rattle.std.specs.Prelude.{ℕ, List, [], ◌∷◌, ◌++◌, Bool, true, false, Result, Ok, Err, Some, None, Option}
use Rattle.answers.specs.declared.Refusal.{Refusal}
use Rattle.faults.specs.declared.Fault.{Fault}
use Rattle.timecodes.specs.declared.Timecode.{Timecode}
use Rattle.timecodes.specs.Kinds.{is_position}
use Rattle.label_writer.specs.declared.TimecodeSections.{TimecodeSections}
use Rattle.label_writer.specs.LabelText.{frames_mark, sections_text}
use Rattle.reading.specs.declared.Read.{Read}
use Rattle.reading.specs.declared.Read.TheVariants as read
use Rattle.reasons.specs.declared.Fact.{Fact}
use Rattle.reasons.specs.declared.Fact.TheVariants.{Limit, First}
use Rattle.reasons.specs.declared.Reason.{Reason}
use Rattle.written.specs.Parts.{signed_text}
use Rattle.streams.specs.Sheet.{Sheet, put_on}
use Rattle.laws.specs.Spelt.{spelt}
use Rattle.showing.specs.Shown.{count_text}

-- ---- parts one behind the other
-- as one text
unfoldable pub joined : List (List ℕ) → List ℕ
joined [] = []
joined (t ∷ ts) = t ++ joined ts

-- and put on a sheet, each where it has room
unfoldable pub puts_on : Sheet → List (List ℕ) → Sheet
puts_on s [] = s
puts_on s (t ∷ ts) = puts_on (put_on s t) ts

-- a space and a number
abbrev pub spaced_parts : (minus : Bool) (m : ℕ) → List (List ℕ)
spaced_parts minus m = (32 ∷ []) ∷ signed_text minus m ∷ []

-- ---- what the reader answers: NUMBER PLACE COUNT
-- the mark of a position
abbrev pub mark_parts : (position : Bool) → List (List ℕ)
mark_parts true = (64 ∷ []) ∷ []
mark_parts false = []

-- an accepted text has number 0, place 0 and its count, with `@` before it where it is a position
unfoldable pub accepted_parts : Timecode → List (List ℕ)
accepted_parts tc = spelt "0 0 " ∷ (mark_parts (is_position tc.kind) ++ (count_text tc.count ∷ []))

-- one that is turned down has its number, its place, and count 0
unfoldable pub turned_down_parts : Refusal → List (List ℕ)
turned_down_parts e = signed_text false (refusal_number e) ∷ (32 ∷ []) ∷ signed_text false e.place ∷ spelt " 0" ∷ []

abbrev pub read_parts : Result Read Refusal → List (List ℕ)
read_parts (Ok (read.Label tc)) = accepted_parts tc
read_parts (Ok (read.Footage tc format)) = accepted_parts tc
read_parts (Err e) = turned_down_parts e

-- ---- the fact behind it: LIMIT VALUE LABEL
-- a limit and a value, each with its sign, and no label
unfoldable pub limit_parts : Fault → List (List ℕ)
limit_parts f = (32 ∷ []) ∷ signed_text f.minus f.limit ∷ (32 ∷ []) ∷ signed_text f.minus f.value ∷ spelt " -" ∷ []

-- a label as the label writer has it at the rate, and no limit
unfoldable pub first_parts : (rate : ℕ) → TimecodeSections → List (List ℕ)
first_parts rate s = spelt " 0 0 " ∷ sections_text (frames_mark rate) s ∷ []

abbrev pub fact_parts : (rate : ℕ) → Option Fact → List (List ℕ)
fact_parts rate None = spelt " 0 0 -" ∷ []
fact_parts rate (Some (Limit f)) = limit_parts f
fact_parts rate (Some (First s)) = first_parts rate s

-- ---- the whole line
-- and how many bytes the phrase has
unfoldable pub told_parts : (rate : ℕ) → Reason → List (List ℕ)
told_parts rate r = read_parts r.read ++ (fact_parts rate r.fact ++ spaced_parts false r.length)

-- or the refusal alone
abbrev pub reasoned_parts : (rate : ℕ) → Result Reason Refusal → List (List ℕ)
reasoned_parts rate (Ok r) = told_parts rate r
reasoned_parts rate (Err e) = spelt "refused " ∷ signed_text false (refusal_number e) ∷ []

-- behind a space the whole line, and the line's end
abbrev pub why_parts : (rate : ℕ) → Result Reason Refusal → (line : List ℕ) → List (List ℕ)
why_parts rate w line = reasoned_parts rate w ++ ((32 ∷ []) ∷ line ∷ (10 ∷ []) ∷ [])

unfoldable pub why_text : (rate : ℕ) → Result Reason Refusal → (line : List ℕ) → List ℕ
why_text rate w line = joined (why_parts rate w line)

unfoldable pub why_on : Sheet → (rate : ℕ) → Result Reason Refusal → (line : List ℕ) → Sheet
why_on s rate w line = puts_on s (why_parts rate w line)
