-- What the fact behind a number says of the text (BEHAVIOUR: Why): the field or count that it speaks of, that this is not allowed, the nearest
-- value that is, and that nothing to its left is at fault.
-- Assumes nothing.
use Rattle.std.specs.Prelude.{ℕ, zero, suc, ◌+◌, ◌*◌, ◌%◌, ◌≤◌, ◌<◌, ◌≡◌, ◌⊎◌, Bool, true, false, List, [], ◌∷◌, ℤ, pos, get_or, Option, Some, None}
use Rattle.digits.specs.Digits.{value_of}
use Rattle.answers.specs.Refusals.{is_count}
use Rattle.faults.specs.declared.Field.{Field}
use Rattle.faults.specs.declared.Field.TheVariants.{Count, Sign, Hours, Minutes, Seconds, Frames, Marker}
use Rattle.faults.specs.declared.Fault.{Fault}
use Rattle.faults.specs.Faults as faults
use Rattle.faults.specs.Faults.{NearestAllowed, limit_of}
use Rattle.rates.specs.Rates.{rate_row, drop_frames}
use Rattle.film.specs.declared.FilmFormat.{FilmFormat}
use Rattle.film.specs.Statements.{Occurs}
use Rattle.labels.specs.Label.{hours_in, minutes_in, dropped_in, Strict}
use Rattle.labels.specs.Sections.{label_number}
use Rattle.footage_scan.specs.Shape.{FootageParts, has_perf}
use Rattle.label_writer.specs.declared.TimecodeSections.{TimecodeSections}
use Rattle.reading.specs.Statements.{LabelText, FootageText, InFormat, LabelCount, FootageCount}
use Rattle.reasons.specs.declared.Fact.{Fact}
use Rattle.reasons.specs.declared.Fact.TheVariants.{Limit, First}

-- ---- 3
-- the four fields of sections
abbrev pub fields_of : TimecodeSections → List ℕ
fields_of s = s.hours ∷ s.minutes ∷ s.seconds ∷ s.frames ∷ []

-- the minute that a label's fields lie in, minutes past 59 carried into hours
abbrev pub minute_of : (fields : List ℕ) → ℕ
minute_of fields = 60 * hours_in fields + minutes_in fields

-- these are, under the text's sign, the fields of the first label of its minute that is allowed: minutes and seconds under 60, frames under the
-- timebase, as they are written; hours run on
pub record FirstOfMinute (rate : ℕ) (minus : Bool) (fields : List ℕ) (s : TimecodeSections) : Type 0 where
  pub sign : s.negative ≡ minus
  pub strict : Strict (rate_row rate).timebase (fields_of s)
  pub allowed : dropped_in (drop_frames rate) (fields_of s) ≡ false
  pub minute : minute_of (fields_of s) ≡ minute_of fields
  pub first :
      (other : List ℕ) → Strict (rate_row rate).timebase other → dropped_in (drop_frames rate) other ≡ false → minute_of other ≡ minute_of fields
      → label_number (rate_row rate).timebase (fields_of s) ≤ label_number (rate_row rate).timebase other

-- ---- 5
-- the exact count that a text has, before any reduction: a label's, or a footage's in its film format
abbrev pub CountOf : (l : List ℕ) → Option ℕ → (rate : ℕ) → ℤ → Type 0
CountOf l stated rate z = LabelCount l stated rate z ⊎ ((format : FilmFormat) × FootageCount l stated format z)

-- it is that count which is shown, it is out of bounds, and the limit is the nearest count within them
pub record CountFact (l : List ℕ) (stated : Option ℕ) (rate : ℕ) (f : Fault) : Type 0 where
  pub of_count : f.field ≡ Count
  pub count : CountOf l stated rate (faults.value_of f)
  pub nearest : NearestAllowed (λ z. is_count z ≡ true) (limit_of f) (faults.value_of f)

-- ---- 13
-- a frames number that occurs in a foot
pub record OfFoot (format : FilmFormat) (feet : ℕ) (x : ℤ) : Type 0 where
  pub number : ℕ
  pub is : x ≡ pos number
  pub occurs : Occurs format feet number

pub data FilmFact (format : FilmFormat) (p : FootageParts) (f : Fault) : Type 0 where
  -- the frames number does not occur in that foot, and the limit is the nearest that does
  frames :
      f.field ≡ Frames → faults.value_of f ≡ pos (value_of p.frames)
      → NearestAllowed (OfFoot format (value_of p.feet)) (limit_of f) (faults.value_of f) → FilmFact format p f
  -- it does, but the marker is present and is not feet modulo 3, which alone is allowed
  marker :
      f.field ≡ Marker → Occurs format (value_of p.feet) (value_of p.frames) → has_perf p.perf ≡ true
      → faults.value_of f ≡ pos (value_of p.perf)
      → NearestAllowed (λ x. x ≡ pos (value_of p.feet % 3)) (limit_of f) (faults.value_of f) → FilmFact format p f

pub record FootageFact (l : List ℕ) (stated : Option ℕ) (f : Fault) : Type 0 where
  pub parts : FootageParts
  pub text : FootageText l parts
  pub format : FilmFormat
  pub in-format : InFormat stated parts format
  pub fact : FilmFact format parts f

-- ---- 14
-- a value that some strict label of the day has in its i-th field, hours being the 0th
pub record OfDayLabel (timebase i : ℕ) (x : ℤ) : Type 0 where
  pub fields : List ℕ
  pub hours : hours_in fields < 24
  pub strict : Strict timebase fields
  pub there : x ≡ pos (get_or fields i 0)

abbrev pub field_at : (i : ℕ) → Field
field_at zero = Hours
field_at (suc zero) = Minutes
field_at (suc (suc zero)) = Seconds
field_at (suc (suc (suc i))) = Frames

pub data StrictFact (timebase : ℕ) (minus : Bool) (fields : List ℕ) (f : Fault) : Type 0 where
  -- a sign, before all: both are 0
  sign : minus ≡ true → f ≡ faults.fault Sign false 0 0 → StrictFact timebase minus fields f
  -- no sign, and each field to the left is allowed: the value of this one is not, and the limit is the nearest that is
  field :
      (i : ℕ) → i < 4 → f.field ≡ field_at i → minus ≡ false → ((j : ℕ) → j < i → OfDayLabel timebase j (pos (get_or fields j 0)))
      → faults.value_of f ≡ pos (get_or fields i 0) → NearestAllowed (OfDayLabel timebase i) (limit_of f) (faults.value_of f)
      → StrictFact timebase minus fields f

-- ---- by number
pub data FactHolds (l : List ℕ) (stated : Option ℕ) (rate : ℕ) : (number : ℕ) → Option Fact → Type 0 where
  -- 0, accepted; and 1, 2, 4 and 6
  none : {n : ℕ} → (n ≤ 2) ⊎ ((n ≡ 4) ⊎ (n ≡ 6)) → FactHolds l stated rate n None
  -- 3: the first allowed label of the text's minute
  dropped : {minus : Bool} {fields : List ℕ} {s : TimecodeSections}
      → LabelText l minus fields → FirstOfMinute rate minus fields s → FactHolds l stated rate 3 (Some (First s))
  -- 5: the count
  out-of-bounds : {f : Fault} → CountFact l stated rate f → FactHolds l stated rate 5 (Some (Limit f))
  -- 13: a field of a footage
  not-on-film : {f : Fault} → FootageFact l stated f → FactHolds l stated rate 13 (Some (Limit f))
  -- 14: the sign of a label, or a field
  not-strict : {minus : Bool} {fields : List ℕ} {f : Fault}
      → LabelText l minus fields → StrictFact (rate_row rate).timebase minus fields f → FactHolds l stated rate 14 (Some (Limit f))
