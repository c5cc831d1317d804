-- What a text reads as for a position (BEHAVIOUR: Positions): 14 exactly, and that all else is as for a length, reduced by whole days. Proofs:
-- proofs/Positions.antt.
-- Assumes nothing.
use Rattle.std.specs.Prelude.{ℕ, ◌<◌, ◌≡◌, ◌↔◌, List, Bool, true, false, ℤ, pos, Option, None, Ok}
use Rattle.answers.specs.Refusals.{is_count}
use Rattle.rates.specs.Rates.{rate_row, drop_frames}
use Rattle.timecodes.specs.declared.Timecode.{Timecode}
use Rattle.timecodes.specs.declared.kinds.Kind.{Kind}
use Rattle.timecodes.specs.declared.kinds.Kind.TheVariants.{Length, Position}
use Rattle.timecodes.specs.Timecode.{position}
use Rattle.timecodes.specs.Made.{OfDay}
use Rattle.timecodes.specs.Admitted.{Valid}
use Rattle.film.specs.declared.FilmFormat.{FilmFormat}
use Rattle.labels.specs.Label.{hours_in, Strict}
use Rattle.labels.specs.Statements.{DayLabel}
use Rattle.reading.specs.declared.Read.TheVariants.{Label, Footage}
use Rattle.reading.specs.Answer.{number_of, place_of}
use Rattle.reading.specs.Reading.{read_text}
use Rattle.reading.specs.For.{settled_read, read_for}
use Rattle.reading.specs.Statements.{RateAndFormat, LabelText, FootageCount}

-- a length is read as document 01 says
abbrev pub LengthRead : Type 0
LengthRead = (l : List ℕ) (stated : Option ℕ) (rate : ℕ) → read_for Length l stated rate ≡ read_text l stated rate

-- ---- 14
-- a label is a position's: no sign, hours under 24, minutes and seconds under 60, frames under the timebase (a short label has zeros in front)
pub record StrictLabel (rate : ℕ) (minus : Bool) (fields : List ℕ) : Type 0 where
  pub unsigned : minus ≡ false
  pub hours : hours_in fields < 24
  pub strict : Strict (rate_row rate).timebase fields

-- a text is a label that is not strict, or has a sign
pub record NotStrictText (l : List ℕ) (rate : ℕ) : Type 0 where
  pub minus : Bool
  pub fields : List ℕ
  pub text : LabelText l minus fields
  pub not-strict : ¬ StrictLabel rate minus fields

-- refusal 14 exactly when there is such a rate and film format (6 comes first) and the text is a label that is not strict or has a sign, no film
-- format stated: only labels get it
abbrev pub RefusedFourteen : Type 0
RefusedFourteen =
    (l : List ℕ) (stated : Option ℕ) (rate : ℕ)
    → (number_of (read_for Position l stated rate) ≡ 14) ↔ (RateAndFormat stated rate × ((stated ≡ None) × NotStrictText l rate))

-- and it has place 0
abbrev pub PlaceFourteen : Type 0
PlaceFourteen =
    (l : List ℕ) (stated : Option ℕ) (rate : ℕ) → number_of (read_for Position l stated rate) ≡ 14 → place_of (read_for Position l stated rate) ≡ 0

-- any other text is answered as for a length, with the same refusals and places; what is read is then reduced by whole days
abbrev pub PositionElse : Type 0
PositionElse =
    (l : List ℕ) (stated : Option ℕ) (rate : ℕ) → ¬ (number_of (read_for Position l stated rate) ≡ 14)
    → read_for Position l stated rate ≡ settled_read Position (read_text l stated rate)

-- ---- the count
-- a text is an allowed label of the day, without a sign, and this is its count
pub record DayText (l : List ℕ) (stated : Option ℕ) (rate n : ℕ) : Type 0 where
  pub unstated : stated ≡ None
  pub fields : List ℕ
  pub text : LabelText l false fields
  pub label : DayLabel (rate_row rate).timebase (drop_frames rate) n fields

-- a label is read as a position exactly when it is an allowed label of the day, and is then the position of its own count
abbrev pub PositionLabel : Type 0
PositionLabel =
    (l : List ℕ) (stated : Option ℕ) (rate n : ℕ) → RateAndFormat stated rate
    → (read_for Position l stated rate ≡ Ok (Label (position (pos n) rate))) ↔ DayText l stated rate n

-- a text is a footage in a film format whose count is within its bounds, and this is the number of the day that it comes to
pub record DayFootage (l : List ℕ) (stated : Option ℕ) (rate : ℕ) (format : FilmFormat) (z : ℤ) : Type 0 where
  pub count : ℤ
  pub footage : FootageCount l stated format count
  pub within : is_count count ≡ true
  pub of_day : OfDay rate count z

-- a footage is held to the bound of its count, then reduced by whole days
abbrev pub PositionFootage : Type 0
PositionFootage =
    (l : List ℕ) (stated : Option ℕ) (rate : ℕ) (format : FilmFormat) (z : ℤ) → RateAndFormat stated rate
    → (read_for Position l stated rate ≡ Ok (Footage (position z rate) format)) ↔ DayFootage l stated rate format z

-- what is read for a kind is of that kind, at the rate, and within the bounds of its kind
abbrev pub ReadKind : Type 0
ReadKind =
    (kind : Kind) (l : List ℕ) (stated : Option ℕ) (rate : ℕ) (tc : Timecode)
    → (read_for kind l stated rate ≡ Ok (Label tc) → (tc.kind ≡ kind) × (tc.rate ≡ rate) × Valid tc)
    × ((format : FilmFormat) → read_for kind l stated rate ≡ Ok (Footage tc format) → (tc.kind ≡ kind) × (tc.rate ≡ rate) × Valid tc)
