-- The fact behind a number, in plain words (docs/WHY.md); of an accepted text its count, label and ticks.
-- Assumes nothing.
use Rattle.answers.specs.declared.Refusal.{Refusal}
use Rattle.std.specs.Prelude.{ℕ, List, [], ◌∷◌, ◌++◌, Bool, true, false, cond, ℤ, nat_abs, Result, Ok, Err, Some, None, Option}
use Rattle.laws.specs.Spelt.{spelt}
use Rattle.numbers.specs.Sign.{is_neg}
use Rattle.faults.specs.declared.Field.{Field}
use Rattle.faults.specs.declared.Field.TheVariants.{Count, Sign, Hours, Minutes, Seconds, Frames, Marker}
use Rattle.faults.specs.declared.Fault.{Fault}
use Rattle.timecodes.specs.declared.Timecode.{Timecode}
use Rattle.written.specs.Parts.{signed_text}
use Rattle.label_writer.specs.declared.TimecodeSections.{TimecodeSections}
use Rattle.label_writer.specs.Sections.{sectioned}
use Rattle.label_writer.specs.LabelText.{frames_mark, sections_text}
use Rattle.time.specs.Ticks.{ticks_of}
use Rattle.reading.specs.declared.Read.{Read}
use Rattle.reading.specs.declared.Read.TheVariants as read
use Rattle.reasons.specs.declared.Fact.{Fact}
use Rattle.reasons.specs.declared.Fact.TheVariants as fact
use Rattle.streams.specs.Pieces.{line_end}

-- ---- numbers and labels
abbrev pub count_text : ℤ → List ℕ
count_text x = signed_text (is_neg x) (nat_abs x)

-- sections as a label of the rate is written
abbrev pub sections_at : (rate : ℕ) → TimecodeSections → List ℕ
sections_at rate s = sections_text (frames_mark rate) s

-- a timecode's label and its ticks; nothing where it has none
abbrev pub label_in : (rate : ℕ) → Result TimecodeSections Refusal → List ℕ
label_in rate (Ok s) = sections_at rate s
label_in rate (Err e) = []

abbrev pub ticks_text : Result ℤ Refusal → List ℕ
ticks_text (Ok z) = count_text z
ticks_text (Err e) = []

-- ---- a limit
-- the word of a field
abbrev pub field_word : Field → List ℕ
field_word Count = spelt "count of frames: "
field_word Sign = spelt "sign: "
field_word Hours = spelt "hours: "
field_word Minutes = spelt "minutes: "
field_word Seconds = spelt "seconds: "
field_word Frames = spelt "frames: "
field_word Marker = spelt "marker: "

abbrev pub is_sign : Field → Bool
is_sign Count = false
is_sign Sign = true
is_sign Hours = false
is_sign Minutes = false
is_sign Seconds = false
is_sign Frames = false
is_sign Marker = false

-- a field, its value and the nearest value that is allowed, by their sign
abbrev pub nearest_pieces : Fault → List (List ℕ)
nearest_pieces f =
    field_word f.field
    ∷ signed_text f.minus f.value
    ∷ spelt ", nearest allowed: "
    ∷ signed_text f.minus f.limit
    ∷ line_end
    ∷ []

-- of a sign only that there may be none
unfoldable pub limit_pieces : Fault → List (List ℕ)
limit_pieces f = cond (is_sign f.field) ((spelt "a time of day has no sign" ++ line_end) ∷ []) (nearest_pieces f)

-- ---- the first label of a minute
unfoldable pub first_pieces : (rate : ℕ) → TimecodeSections → List (List ℕ)
first_pieces rate s = spelt "first label of this minute: " ∷ sections_at rate s ∷ line_end ∷ []

-- ---- an accepted text: its count without a mark, its label and its ticks
unfoldable pub counted_pieces : Timecode → List (List ℕ)
counted_pieces tc =
    spelt "count "
    ∷ count_text tc.count
    ∷ spelt ", label "
    ∷ label_in tc.rate (sectioned tc)
    ∷ spelt ", ticks "
    ∷ ticks_text (ticks_of tc)
    ∷ line_end
    ∷ []

abbrev pub accepted_pieces : Result Read Refusal → List (List ℕ)
accepted_pieces (Ok (read.Label tc)) = counted_pieces tc
accepted_pieces (Ok (read.Footage tc format)) = counted_pieces tc
accepted_pieces (Err e) = []

-- ---- the fact; a refusal that has none has no line for it
abbrev pub fact_pieces : (rate : ℕ) → Result Read Refusal → Option Fact → List (List ℕ)
fact_pieces rate r (Some (fact.First s)) = first_pieces rate s
fact_pieces rate r (Some (fact.Limit f)) = limit_pieces f
fact_pieces rate r None = accepted_pieces r
