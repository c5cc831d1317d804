-- What holds of labels and counts beyond one call (BEHAVIOUR: Labels and counts): the statements, in order. Proofs: proofs/Statements.antt.
-- Assumes nothing.
use Rattle.std.specs.Prelude.{◌≡◌, ◌↔◌, true, List, [], ◌∷◌, ℕ, ◌-◌, ◌≤◌, ◌<◌, length}
use Rattle.tally.specs.Before.{before}
use Rattle.rates.specs.Rates.{is_rate, rate_row, drop_frames}
use Rattle.rates.specs.Day.{day_count, day_frames}
use Rattle.faults.specs.Faults.{is_none}
use Rattle.labels.specs.Label.{hours_in, minutes_in, seconds_in, frames_in, Strict, LabelOf}
use Rattle.labels.specs.Sections.{label_number, fields_at, is_allowed, sections_of}
use Rattle.labels.specs.Faults.{strict_fault}

-- each number is that of a strict label
abbrev pub HasFields : Type 0
HasFields =
    (timebase number : ℕ) → 0 < timebase
    → Strict timebase (fields_at timebase number) × (label_number timebase (fields_at timebase number) ≡ number)

-- and of one only: a strict label's number gives its fields back
abbrev pub OneNumber : Type 0
OneNumber =
    (timebase : ℕ) (fields : List ℕ) → Strict timebase fields → fields_at timebase (label_number timebase fields) ≡ fields

-- the count of an allowed label is the number of allowed labels that come before it
abbrev pub CountsEarlier : Type 0
CountsEarlier =
    (timebase D n : ℕ) (fields : List ℕ) → D < timebase → LabelOf timebase D n fields
    → n ≡ before (is_allowed timebase D) (label_number timebase fields)

-- each count has an allowed label, its sections; hours run on past 23
abbrev pub HasLabel : Type 0
HasLabel = (timebase D n : ℕ) → D < timebase → LabelOf timebase D n (sections_of timebase D n)

-- and no count has two
abbrev pub OneLabel : Type 0
OneLabel =
    (timebase D n : ℕ) (a b : List ℕ) → D < timebase → LabelOf timebase D n a → LabelOf timebase D n b → a ≡ b

-- hours are at most n, and the other fields have at most two digits
pub record Small (n : ℕ) (fields : List ℕ) : Type 0 where
  pub hours : hours_in fields ≤ n
  pub minutes : minutes_in fields < 100
  pub seconds : seconds_in fields < 100
  pub frames : frames_in fields < 100

-- a label's hours are at most its count, and its other fields have at most two digits
abbrev pub SmallFields : Type 0
SmallFields =
    (timebase D n : ℕ) (fields : List ℕ) → timebase ≤ 60 → D < timebase → LabelOf timebase D n fields → Small n fields

-- ---- a day
-- an allowed label of the day, hours under 24, whose count is n
pub record DayLabel (timebase D n : ℕ) (fields : List ℕ) : Type 0 where
  pub hours : hours_in fields < 24
  pub label : LabelOf timebase D n fields

-- the allowed labels of a day have the counts 0 to whole - 1, once each, and each has its count of allowed labels before it
pub record Filled (timebase D whole : ℕ) : Type 0 where
  pub under : (n : ℕ) (fields : List ℕ) → DayLabel timebase D n fields → n < whole
  pub had : (n : ℕ) → n < whole → DayLabel timebase D n (sections_of timebase D n)
  pub once : (n : ℕ) (a b : List ℕ) → DayLabel timebase D n a → DayLabel timebase D n b → a ≡ b
  pub earlier :
      (n : ℕ) (fields : List ℕ) → DayLabel timebase D n fields
      → n ≡ before (is_allowed timebase D) (label_number timebase fields)

-- the allowed labels of a day have the counts 0 to day_count - 1, once each
abbrev pub FillDay : Type 0
FillDay = (timebase D : ℕ) → D < timebase → Filled timebase D (day_count timebase D)

-- so at each of the twelve rates they fill its day
abbrev pub FillRate : Type 0
FillRate = (rate : ℕ) → is_rate rate ≡ true → Filled (rate_row rate).timebase (drop_frames rate) (day_frames rate)

-- and in order: of two labels the one that comes first has the smaller count
abbrev pub FillInOrder : Type 0
FillInOrder =
    (timebase D m n : ℕ) (a b : List ℕ) → D < timebase → LabelOf timebase D m a → LabelOf timebase D n b
    → (m < n) ↔ (label_number timebase a < label_number timebase b)

-- the day's first label is 00:00:00 and frame 0, and its last 23:59:59 and the timebase's last frame
abbrev pub DayEnds : Type 0
DayEnds =
    (rate : ℕ) → is_rate rate ≡ true
    → (sections_of (rate_row rate).timebase (drop_frames rate) 0 ≡ 0 ∷ 0 ∷ 0 ∷ 0 ∷ [])
    × (sections_of (rate_row rate).timebase (drop_frames rate) (day_frames rate - 1) ≡ 23 ∷ 59 ∷ 59 ∷ ((rate_row rate).timebase - 1) ∷ [])

-- nothing is at fault in the fields of a label exactly when it is strict, with hours under 24
abbrev pub StrictExactly : Type 0
StrictExactly =
    (timebase : ℕ) (fields : List ℕ) → length fields ≡ 4
    → (is_none (strict_fault timebase fields) ≡ true) ↔ ((hours_in fields < 24) × Strict timebase fields)

-- at 29.97 drop the allowed labels of a day have the counts 0 to 2,589,407, once each
abbrev pub FillDay30 : Type 0
FillDay30 = Filled 30 2 2_589_408

-- at 59.94 drop the allowed labels of a day have the counts 0 to 5,178,815, once each
abbrev pub FillDay60 : Type 0
FillDay60 = Filled 60 4 5_178_816
