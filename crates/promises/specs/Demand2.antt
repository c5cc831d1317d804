-- Demand 2 (SMPTE ST 12-1 at 29.97 drop and 59.94 drop): at each rate the strict two-digit labels that are not dropped and the positions of the day are
-- one to one, read and written, in order.
-- Assumes nothing.
use Rattle.answers.specs.declared.Refusal.{Refusal}
use Rattle.std.specs.Prelude.{ℕ, ◌+◌, ◌≤◌, ◌<◌, ◌≡◌, ◌↔◌, true, false, List, ◌∷◌, ◌++◌, ℤ, pos, length, None, Ok, Err, Result}
use Rattle.tally.specs.Before.{before}
use Rattle.digits.specs.Digits.{digits_of}
use Rattle.lent.specs.Line.{splice}
use Rattle.answers.specs.Refusals.{dropped_label}
use Rattle.rates.specs.Rates.{is_rate, rate_row, drop_frames}
use Rattle.rates.specs.Day.{day_frames}
use Rattle.timecodes.specs.declared.kinds.Kind.{Kind}
use Rattle.timecodes.specs.declared.kinds.Kind.TheVariants.{Position}
use Rattle.timecodes.specs.Timecode.{timecode_as}
use Rattle.timecodes.specs.Statements.{CountUnder}
use Rattle.labels.specs.Label.{hours_in, minutes_in, seconds_in, frames_in, dropped_in, Strict}
use Rattle.labels.specs.Sections.{label_number, is_allowed}
use Rattle.scanner.specs.Scan.{is_divider}
use Rattle.reading.specs.declared.Read.{Read}
use Rattle.reading.specs.declared.Read.TheVariants.{Label}
use Rattle.reading.specs.For.{read_for}
use Rattle.written.specs.Written.{answer_to, line_to}
use Rattle.label_writer.specs.LabelText.{frames_mark, label_text, label_draft}

-- ---- strict two-digit labels
-- four fields of two digits, unsigned, with a divider before each but the first
abbrev pub two_digit_text : (fields : List ℕ) (a b c : ℕ) → List ℕ
two_digit_text fields a b c =
    digits_of 2 (hours_in fields)
    ++ (a ∷ digits_of 2 (minutes_in fields) ++ (b ∷ digits_of 2 (seconds_in fields) ++ (c ∷ digits_of 2 (frames_in fields))))

-- the text is such a label with these fields: hours under 24, minutes and seconds under 60, frames under the timebase; each divider `:` or `;`
pub record StrictText (timebase : ℕ) (fields text : List ℕ) : Type 0 where
  pub hours : hours_in fields < 24
  pub strict : Strict timebase fields
  pub first : ℕ
  pub second : ℕ
  pub third : ℕ
  pub first_divides : is_divider first ≡ true
  pub second_divides : is_divider second ≡ true
  pub third_divides : is_divider third ≡ true
  pub spelt : text ≡ two_digit_text fields first second third

-- what a text is read as, no film format stated
abbrev pub read_at : Kind → (rate : ℕ) (text : List ℕ) → Result Read Refusal
read_at kind rate text = read_for kind text None rate

-- some strict label is read as n
pub record ReadAs (kind : Kind) (rate timebase n : ℕ) : Type 0 where
  pub fields : List ℕ
  pub text : List ℕ
  pub label : StrictText timebase fields text
  pub read : read_at kind rate text ≡ Ok (Label (timecode_as kind (pos n) rate))

-- ---- the demand
-- of timecodes of a kind, at a rate that drops the first D labels of each minute but every tenth, so that `whole` labels of a day are left,
-- and that is written with this mark before frames
pub record Demand2 (kind : Kind) (rate timebase D whole mark : ℕ) : Type 0 where
  -- reading refuses exactly the dropped ones
  pub refuses_dropped :
      (fields text : List ℕ) → StrictText timebase fields text
      → (read_at kind rate text ≡ Err dropped_label) ↔ (dropped_in D fields ≡ true)
  -- each other label's count is the number of allowed labels earlier in the day
  pub counts_earlier :
      (fields text : List ℕ) → StrictText timebase fields text → dropped_in D fields ≡ false
      → read_at kind rate text ≡ Ok (Label (timecode_as kind (pos (before (is_allowed timebase D) (label_number timebase fields))) rate))
  -- so they fill 0 to whole - 1: each of these is read from a label, and no other number is
  pub each_read : (n : ℕ) → n < whole → ReadAs kind rate timebase n
  pub no_other :
      (fields text : List ℕ) (z : ℤ) → StrictText timebase fields text → read_at kind rate text ≡ Ok (Label (timecode_as kind z rate)) → CountUnder whole z
  -- once each: two labels that are read as one count have the same fields
  pub once :
      (a b text other : List ℕ) (z : ℤ) → StrictText timebase a text → StrictText timebase b other
      → read_at kind rate text ≡ Ok (Label (timecode_as kind z rate)) → read_at kind rate other ≡ Ok (Label (timecode_as kind z rate)) → a ≡ b
  -- in order: of two labels the one that comes first in the day is read as the smaller count
  pub in_order :
      (a b text other : List ℕ) (m n : ℕ) → StrictText timebase a text → StrictText timebase b other
      → read_at kind rate text ≡ Ok (Label (timecode_as kind (pos m) rate)) → read_at kind rate other ≡ Ok (Label (timecode_as kind (pos n) rate))
      → (m < n) ↔ (label_number timebase a < label_number timebase b)
  -- writing gives each label's fields back, with `:` `:` and the mark
  pub fields_back :
      (fields text : List ℕ) (z : ℤ) → StrictText timebase fields text → read_at kind rate text ≡ Ok (Label (timecode_as kind z rate))
      → label_text rate z ≡ two_digit_text fields 58 58 mark
  -- given room: eleven bytes from its place on, and these alone, are then the label's
  pub written_back :
      (fields text : List ℕ) (z : ℤ) (line : List ℕ) (place : ℕ) → StrictText timebase fields text
      → read_at kind rate text ≡ Ok (Label (timecode_as kind z rate)) → place + 11 ≤ length line
      → (answer_to line place (label_draft (timecode_as kind z rate)) ≡ Ok 11)
      × (line_to line place (label_draft (timecode_as kind z rate)) ≡ splice line place (two_digit_text fields 58 58 mark))

-- at each of the twelve rates, of positions, and of lengths too: from the rate's row its timebase, its dropped labels, its day, its mark
abbrev pub FillsEachRate : Type 0
FillsEachRate =
    (kind : Kind) (rate : ℕ) → is_rate rate ≡ true
    → Demand2 kind rate (rate_row rate).timebase (drop_frames rate) (day_frames rate) (frames_mark rate)

-- at 29.97 drop the positions are 0 to 2,589,407, frames under 30, with `;` before frames
abbrev pub Demand2At5 : Type 0
Demand2At5 = Demand2 Position 5 30 2 2_589_408 59

-- the same at rate 11, frames under 60: 0 to 5,178,815
abbrev pub Demand2At11 : Type 0
Demand2At11 = Demand2 Position 11 60 4 5_178_816 59
