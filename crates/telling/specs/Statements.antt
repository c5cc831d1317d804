-- What holds of what is told (docs/WHY.md). Proofs: proofs/Statements.antt.
-- Assumes nothing.
use Rattle.answers.specs.Causes.{refusal_number}
use Rattle.std.specs.Prelude.{ℕ, zero, suc, ◌+◌, ◌≤◌, ◌≡◌, ◌↔◌, Bool, true, false, cond, List, [], ◌∷◌, ◌++◌, map, length, drop, Ok, Err}
use Rattle.laws.specs.Spelt.{spelt}
use Rattle.laws.specs.Every.{every}
use Rattle.answers.specs.declared.Refusal.{Refusal}
use Rattle.faults.specs.declared.Field.TheVariants as field
use Rattle.faults.specs.declared.Fault.{Fault}
use Rattle.faults.specs.Faults.{fault}
use Rattle.timecodes.specs.declared.Timecode.{Timecode}
use Rattle.film.specs.declared.FilmFormat.{FilmFormat}
use Rattle.written.specs.Parts.{signed_text}
use Rattle.label_writer.specs.declared.TimecodeSections.{TimecodeSections}
use Rattle.label_writer.specs.Sections.{sectioned}
use Rattle.label_writer.specs.LabelText.{frames_mark, sections_text}
use Rattle.time.specs.Ticks.{ticks_of}
use Rattle.phrases.specs.Phrases.{phrase_of}
use Rattle.reading.specs.declared.Read.TheVariants as read
use Rattle.streams.specs.Sheet.{Sheet, text_on}
use Rattle.streams.specs.Parting.{together}
use Rattle.telling.specs.declared.told.Way.{Way}
use Rattle.streams.specs.Pieces.{all_on}
use Rattle.telling.specs.Shown.{is_printable, shown_byte, has_place, caret_pieces}
use Rattle.telling.specs.Facts.{count_text, label_in, ticks_text, field_word, is_sign, limit_pieces, first_pieces, counted_pieces, fact_pieces}
use Rattle.telling.specs.Told.{read_in, fact_in, told_pieces, told_text}
use Rattle.telling.specs.Question.{with_text, no_text, question_of}
use Rattle.telling.specs.Grammar.{Asks, AsksTexts}
use Rattle.telling.specs.Answered.{question_pieces, text_pieces}
use Rattle.telling.specs.Joined.{word_pieces}

-- ---- what is put
-- behind the text that the sheet has stands all that is told, where it has room, and nothing else
abbrev pub ToldStands : Type 0
ToldStands =
    (s : Sheet) (way : Way) (text : List ℕ) → s.used + length (told_text way text) ≤ length s.bytes
    → text_on (all_on s (told_pieces way text)) ≡ text_on s ++ told_text way text

-- so it is with the answer to a line that is a question, and to one that is a text
abbrev pub AnswerStands : Type 0
AnswerStands =
    (s : Sheet) (line : List ℕ) (over : Bool)
    → (s.used + length (together (question_pieces line over)) ≤ length s.bytes
    → text_on (all_on s (question_pieces line over)) ≡ text_on s ++ together (question_pieces line over))
    × ((way : Way) → s.used + length (together (text_pieces way line over)) ≤ length s.bytes
    → text_on (all_on s (text_pieces way line over)) ≡ text_on s ++ together (text_pieces way line over))

-- and a word that is joined stands behind the others with a space behind it
abbrev pub WordStands : Type 0
WordStands =
    (s : Sheet) (word : List ℕ) → s.used + (length word + 1) ≤ length s.bytes
    → text_on (all_on s (word_pieces word)) ≡ text_on s ++ (word ++ (32 ∷ []))

-- ---- what is told
-- so many spaces
unfoldable pub spaces : ℕ → List ℕ
spaces zero = []
spaces (suc n) = 32 ∷ spaces n

-- a caret in a line of its own, of refusals 1 and 2
abbrev pub caret_text : (number place : ℕ) → List ℕ
caret_text number place = cond (has_place number) (spaces place ++ (94 ∷ 10 ∷ [])) []

-- of a text that is refused: the text, a caret under the reader's place where it gives one, the reader's number with its phrase, and the fact
abbrev pub RefusedTold : Type 0
RefusedTold =
    (way : Way) (text : List ℕ) (e : Refusal) → read_in way text ≡ Err e → ((refusal_number e) ≡ 0 → ⊥)
    → told_text way text
    ≡ map shown_byte text
    ++ (10 ∷ (caret_text (refusal_number e) e.place
    ++ (spelt "refused "
    ++ (signed_text false (refusal_number e)
    ++ (spelt ": "
    ++ (phrase_of (refusal_number e)
    ++ (10 ∷ together (fact_pieces way.rate (Err e) (fact_in way text)))))))))

-- of a label that is accepted: the text, `accepted`, and its count, label and ticks
abbrev pub LabelTold : Type 0
LabelTold =
    (way : Way) (text : List ℕ) (tc : Timecode) → read_in way text ≡ Ok (read.Label tc)
    → told_text way text ≡ map shown_byte text ++ (10 ∷ (spelt "accepted" ++ (10 ∷ together (counted_pieces tc))))

-- and of a footage the same
abbrev pub FootageTold : Type 0
FootageTold =
    (way : Way) (text : List ℕ) (tc : Timecode) (format : FilmFormat) → read_in way text ≡ Ok (read.Footage tc format)
    → told_text way text ≡ map shown_byte text ++ (10 ∷ (spelt "accepted" ++ (10 ∷ together (counted_pieces tc))))

-- ---- one column for one byte
-- a text is shown in as many bytes as it has, each printable; a printable one is shown as it is
abbrev pub ShownColumns : Type 0
ShownColumns =
    (text : List ℕ)
    → (length (map shown_byte text) ≡ length text)
    × ((every is_printable (map shown_byte text) ≡ true) × (every is_printable text ≡ true → map shown_byte text ≡ text))

-- as many spaces stand before the caret as bytes before the place
abbrev pub CaretUnder : Type 0
CaretUnder = (place : ℕ) → (together (caret_pieces place) ≡ spaces place ++ (94 ∷ 10 ∷ [])) × (length (spaces place) ≡ place)

-- ---- the facts
-- of an accepted text its count, its label and its ticks
abbrev pub CountedRead : Type 0
CountedRead =
    (tc : Timecode)
    → together (counted_pieces tc)
    ≡ spelt "count "
    ++ (count_text tc.count
    ++ (spelt ", label " ++ (label_in tc.rate (sectioned tc) ++ (spelt ", ticks " ++ (ticks_text (ticks_of tc) ++ (10 ∷ []))))))

-- of a field that is no sign its word, its value, and the limit
abbrev pub LimitRead : Type 0
LimitRead =
    (f : Fault) → is_sign f.field ≡ false
    → together (limit_pieces f)
    ≡ field_word f.field ++ (signed_text f.minus f.value ++ (spelt ", nearest allowed: " ++ (signed_text f.minus f.limit ++ (10 ∷ []))))

-- of 3 the label, as it is written at the rate
abbrev pub FirstRead : Type 0
FirstRead =
    (rate : ℕ) (s : TimecodeSections)
    → together (first_pieces rate s) ≡ spelt "first label of this minute: " ++ (sections_text (frames_mark rate) s ++ (10 ∷ []))

-- they read so in plain words, one case of each
pub record FactsRead : Type 0 where
  pub first : together (first_pieces 5 (record { negative = true; hours = 2; minutes = 15; seconds = 0; frames = 2 }))
      ≡ spelt "first label of this minute: -02:15:00;02" ++ (10 ∷ [])
  pub count : together (limit_pieces (fault field.Count true 400000000 400000001))
      ≡ spelt "count of frames: -400000001, nearest allowed: -400000000" ++ (10 ∷ [])
  pub sign : together (limit_pieces (fault field.Sign false 0 0)) ≡ spelt "a time of day has no sign" ++ (10 ∷ [])
  pub hours : together (limit_pieces (fault field.Hours false 23 24)) ≡ spelt "hours: 24, nearest allowed: 23" ++ (10 ∷ [])
  pub minutes : together (limit_pieces (fault field.Minutes false 59 60)) ≡ spelt "minutes: 60, nearest allowed: 59" ++ (10 ∷ [])
  pub seconds : together (limit_pieces (fault field.Seconds false 59 75)) ≡ spelt "seconds: 75, nearest allowed: 59" ++ (10 ∷ [])
  pub frames : together (limit_pieces (fault field.Frames false 20 21)) ≡ spelt "frames: 21, nearest allowed: 20" ++ (10 ∷ [])
  pub marker : together (limit_pieces (fault field.Marker false 1 2)) ≡ spelt "marker: 2, nearest allowed: 1" ++ (10 ∷ [])

-- ---- what a question is
-- it is understood, and the text is what stands from its place on
pub record Understood (line : List ℕ) (way : Way) (text : List ℕ) : Type 0 where
  pub at : ℕ
  pub asked : question_of line ≡ with_text way at
  pub rest : drop at line ≡ text

-- a line is understood as a question exactly when the grammar has it so
abbrev pub QuestionUnderstood : Type 0
QuestionUnderstood = (line : List ℕ) (way : Way) (text : List ℕ) → Asks line way text ↔ Understood line way text

-- and as options and a rate alone exactly when the grammar has it so
abbrev pub TextsUnderstood : Type 0
TextsUnderstood = (line : List ℕ) (way : Way) → AsksTexts line way ↔ (question_of line ≡ no_text way)
