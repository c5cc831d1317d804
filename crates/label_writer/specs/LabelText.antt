-- Writing labels (BEHAVIOUR: Labels and counts): the text of a label, and when there is none.
-- Assumes nothing.
use Rattle.std.specs.Prelude.{ℕ, List, ◌++◌, cond, length, ℤ}
use Rattle.answers.specs.Order.{Condition, unless}
use Rattle.rates.specs.Rates.{is_drop}
use Rattle.timecodes.specs.declared.Timecode.{Timecode}
use Rattle.timecodes.specs.Admitted.{admits}
use Rattle.written.specs.Written.{Draft, Text, NoText}
use Rattle.written.specs.Parts.{field_text}
use Rattle.written.specs.Clock.{clock_text}
use Rattle.label_writer.specs.declared.TimecodeSections.{TimecodeSections}
use Rattle.label_writer.specs.Sections.{label_sections}

-- `:` throughout but `;` before frames at rates 5 and 11
abbrev pub frames_mark : (rate : ℕ) → ℕ
frames_mark rate = cond (is_drop rate) 59 58

-- sign for counts below 0, two digits at least for each field
unfoldable pub sections_text : (mark : ℕ) → TimecodeSections → List ℕ
sections_text mark s = clock_text s.negative s.hours s.minutes s.seconds ++ field_text mark s.frames

-- how many bytes that is, whichever the mark
abbrev pub sections_length : TimecodeSections → ℕ
sections_length s = length (sections_text 58 s)

-- the text of the label
unfoldable pub label_text : (rate : ℕ) (count : ℤ) → List ℕ
label_text rate count = sections_text (frames_mark rate) (label_sections rate count)

-- what leaves no text: 6, no such rate; then 5, a count out of its bounds
abbrev pub label_when : Timecode → List Condition
label_when tc = admits tc

unfoldable pub label_draft : Timecode → Draft
label_draft tc = unless NoText (label_when tc) (Text (label_text tc.rate tc.count))
