-- What holds of every label's text (BEHAVIOUR: Labels and counts): its shape, its length, the bytes that occur in it, and when it is written. Proofs:
-- proofs/Statements.antt.
-- Assumes nothing.
use Rattle.std.specs.Prelude.{ℕ, ◌+◌, ◌≤◌, max, ◌≡◌, Bool, true, ◌||◌, List, [], ◌∷◌, ◌++◌, eqb, ℤ, nat_abs, length, Ok}
use Rattle.laws.specs.Every.{every}
use Rattle.numbers.specs.Sign.{is_neg}
use Rattle.lent.specs.Line.{splice}
use Rattle.answers.specs.Refusals.{is_count}
use Rattle.rates.specs.Rates.{is_rate, rate_row, drop_frames}
use Rattle.timecodes.specs.declared.Timecode.{Timecode}
use Rattle.timecodes.specs.Admitted.{Valid}
use Rattle.digits.specs.Digits.{is_digit, value_of, width}
use Rattle.digits.specs.Statements.{Padded}
use Rattle.labels.specs.Label.{LabelOf}
use Rattle.written.specs.Written.{answer_to, line_to}
use Rattle.written.specs.Parts.{sign_text}
use Rattle.label_writer.specs.Sections.{label_sections}
use Rattle.label_writer.specs.LabelText.{frames_mark, sections_text, label_text, label_draft}
use Rattle.label_writer.specs.declared.TimecodeSections.{TimecodeSections}

-- `;` stands before frames at rates 5 and 11, and `:` at every other
pub record MarkAt : Type 0 where
  pub at_5 : frames_mark 5 ≡ 59
  pub at_11 : frames_mark 11 ≡ 59
  pub elsewhere : (rate : ℕ) → (rate ≡ 5 → ⊥) → (rate ≡ 11 → ⊥) → frames_mark rate ≡ 58

-- a label is a sign and four fields of two digits at least, `:` between them but the mark of its rate before frames; and the fields are
-- those of the one allowed label whose count is the absolute count
pub record WrittenLabel (rate : ℕ) (count : ℤ) : Type 0 where
  pub hours : List ℕ
  pub minutes : List ℕ
  pub seconds : List ℕ
  pub frames : List ℕ
  pub text : label_text rate count ≡ sign_text (is_neg count) ++ (hours ++ (58 ∷ minutes ++ (58 ∷ seconds ++ (frames_mark rate ∷ frames))))
  pub hours_padded : Padded 2 hours
  pub minutes_padded : Padded 2 minutes
  pub seconds_padded : Padded 2 seconds
  pub frames_padded : Padded 2 frames
  pub label :
      LabelOf (rate_row rate).timebase (drop_frames rate) (nat_abs count)
      (value_of hours ∷ value_of minutes ∷ value_of seconds ∷ value_of frames ∷ [])

-- every label that is written at a rate has this shape
abbrev pub LabelIs : Type 0
LabelIs = (rate : ℕ) (count : ℤ) → is_rate rate ≡ true → WrittenLabel rate count

-- a label is as long as its sign, its hours in two digits at least, and three marks with two digits each
abbrev pub LabelLength : Type 0
LabelLength =
    (rate : ℕ) (count : ℤ) → is_rate rate ≡ true
    → length (label_text rate count) ≡ length (sign_text (is_neg count)) + max 2 (width (label_sections rate count).hours) + 9

-- it has from 11 to 14 bytes: hours never have more than four digits
abbrev pub LabelBounds : Type 0
LabelBounds =
    (rate : ℕ) (count : ℤ) → is_rate rate ≡ true → is_count count ≡ true
    → (11 ≤ length (label_text rate count)) × (length (label_text rate count) ≤ 14)

-- a digit, `:`, `;` or `-`
abbrev pub is_label_byte : ℕ → Bool
is_label_byte b = is_digit b || (eqb b 58 || (eqb b 59 || eqb b 45))

-- no other byte occurs in it
abbrev pub LabelBytes : Type 0
LabelBytes = (rate : ℕ) (count : ℤ) → every is_label_byte (label_text rate count) ≡ true

-- at a rate, within the bounds and with 14 bytes of room the label is written: its length is answered, and it stands in the line
abbrev pub LabelWritten : Type 0
LabelWritten =
    (tc : Timecode) (line : List ℕ) (place : ℕ) → Valid tc → place + 14 ≤ length line
    → let text = label_text tc.rate tc.count in
    (answer_to line place (label_draft tc) ≡ Ok (length text)) × (line_to line place (label_draft tc) ≡ splice line place text)

-- the text of any sections: a sign where they are negative, four fields of two digits at least with their values, `:` between them but the mark
-- before frames
pub record WrittenSections (mark : ℕ) (s : TimecodeSections) : Type 0 where
  pub hours : List ℕ
  pub minutes : List ℕ
  pub seconds : List ℕ
  pub frames : List ℕ
  pub text : sections_text mark s ≡ sign_text s.negative ++ (hours ++ (58 ∷ minutes ++ (58 ∷ seconds ++ (mark ∷ frames))))
  pub padded : Padded 2 hours × Padded 2 minutes × Padded 2 seconds × Padded 2 frames
  pub values : (value_of hours ≡ s.hours) × (value_of minutes ≡ s.minutes) × (value_of seconds ≡ s.seconds) × (value_of frames ≡ s.frames)

-- all sections are written so, those that no timecode has too: hours of any number of digits
abbrev pub SectionsIs : Type 0
SectionsIs = (mark : ℕ) (s : TimecodeSections) → WrittenSections mark s
