-- The answer to a line (BEHAVIOUR: The line program), its newline included: count, label and ticks, or `refused` and the number.
-- Assumes nothing.
use Rattle.answers.specs.Causes.{refusal_number}
use Rattle.answers.specs.declared.Refusal.{Refusal}
use Rattle.std.specs.Prelude.{ℕ, List, [], ◌∷◌, ◌++◌, Bool, false, ℤ, nat_abs, Result, Ok, Err}
use Prim.Native.String.{String}
use Prim.Native.Char.{code}
use Rattle.numbers.specs.Sign.{is_neg}
use Rattle.timecodes.specs.declared.Timecode.{Timecode}
use Rattle.timecodes.specs.Instant.{instant, instant_in}
use Rattle.label_writer.specs.declared.TimecodeSections.{TimecodeSections}
use Rattle.label_writer.specs.Sections.{label_sections}
use Rattle.label_writer.specs.LabelText.{frames_mark, sections_text, label_text}
use Rattle.written.specs.Parts.{signed_text}
use Rattle.lines.specs.declared.LineAnswer.{LineAnswer}
use Rattle.lines.specs.declared.Columns.{Columns}
use Rattle.lines.specs.declared.Content.{Content}
use Rattle.lines.specs.declared.Content.TheVariants as content
use Rattle.lines.specs.Input.{line_of}

-- a quoted text as bytes
abbrev pub bytes_of : String → List ℕ
bytes_of String.[] = []
bytes_of (String.◌∷◌ c s) = code c ∷ bytes_of s

-- a whole number unpadded, `-` in front if it is below 0
abbrev pub integer_text : ℤ → List ℕ
integer_text z = signed_text (is_neg z) (nat_abs z)

-- the count, the label, the ticks; the middle column is the label, for a footage too; every line written ends in a newline
unfoldable pub timecode_text : Timecode → List ℕ
timecode_text tc =
    integer_text tc.count
    ++ (32 ∷ label_text tc.rate tc.count
    ++ (32 ∷ integer_text (instant tc)
    ++ (10 ∷ [])))

-- `refused` and the number
unfoldable pub refused_text : (number : ℕ) → List ℕ
refused_text number = bytes_of "refused " ++ (signed_text false number ++ (10 ∷ []))

abbrev pub held_text : Result Timecode Refusal → List ℕ
held_text (Ok tc) = timecode_text tc
held_text (Err e) = refused_text (refusal_number e)

-- a line of output for a line of input
unfoldable pub answer_text : (line : List ℕ) → List ℕ
answer_text line = held_text (line_of line)

-- ---- the same, column by column, as it is laid down
-- the columns of a timecode and the sections of its label
abbrev pub columns_of : Timecode → TimecodeSections → Columns
columns_of tc s =
    record {
      below = is_neg tc.count;
      count = nat_abs tc.count;
      sections = s;
      rate = tc.rate;
      minus = is_neg (instant_in tc);
      ticks = nat_abs (instant_in tc);
    }

-- a number and the byte behind it
abbrev pub ended_text : (minus : Bool) (m end : ℕ) → List ℕ
ended_text minus m end = signed_text minus m ++ (end ∷ [])

-- the label and the space behind it
abbrev pub label_column : Columns → List ℕ
label_column c = sections_text (frames_mark c.rate) c.sections ++ (32 ∷ [])

abbrev pub columns_text : Columns → List ℕ
columns_text c = ended_text c.below c.count 32 ++ (label_column c ++ ended_text c.minus c.ticks 10)

-- ---- the answer as a value
-- the columns of a timecode that a line holds
abbrev pub columns_held : Result Timecode Refusal → Result Columns Refusal
columns_held (Ok tc) = Ok (columns_of tc (label_sections tc.rate tc.count))
columns_held (Err e) = Err e

abbrev pub answer_with : Result Columns Refusal → LineAnswer
answer_with (Ok c) = record { content = content.Timecode c }
answer_with (Err e) = record { content = content.Refused (record { number = refusal_number e }) }

-- the answer to a line
unfoldable pub answer_of : (line : List ℕ) → LineAnswer
answer_of line = answer_with (columns_held (line_of line))

-- its text
abbrev pub content_text : Content → List ℕ
content_text (content.Timecode c) = columns_text c
content_text (content.Refused r) = refused_text r.number

abbrev pub text_of : LineAnswer → List ℕ
text_of a = content_text a.content
