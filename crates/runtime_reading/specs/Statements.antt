-- The length that a runtime's text reads as, by its shape (BEHAVIOUR: Time): each refusal exactly, the nearest frame. Proofs: proofs/Statements.antt.
-- Assumes nothing.
use Rattle.std.specs.Prelude.{ℕ, ◌*◌, ◌≡◌, ◌↔◌, List, map, true, false, ℤ, Ok, Err}
use Rattle.numbers.specs.Sign.{signed}
use Rattle.numbers.specs.Nearest.{Nearest}
use Rattle.digits.specs.Digits.{value_of}
use Rattle.answers.specs.declared.Refusal.{Refusal}
use Rattle.answers.specs.Refusals.{is_count}
use Rattle.rates.specs.Rates.{is_rate, rate_row}
use Rattle.timecodes.specs.declared.Timecode.{Timecode}
use Rattle.timecodes.specs.Timecode.{timecode, number_of, timecode_of}
use Rattle.scanner.specs.Justified.{justified}
use Rattle.scanner.specs.Shapes.{TextParts}
use Rattle.runtime_scan.specs.Shape.{RuntimeShape, millionths_of, runtime_long, HasRuntimeShape}
use Rattle.runtime_reading.specs.Reading.{time_in, read_runtime}

-- refusal 6 exactly when there is no such rate
abbrev pub RefusedSix : Type 0
RefusedSix = (l : List ℕ) (rate : ℕ) → (number_of (read_runtime l rate) ≡ 6) ↔ (is_rate rate ≡ false)

-- at a rate, refusal 1 exactly when the text has no shape
abbrev pub RefusedOne : Type 0
RefusedOne =
    (l : List ℕ) (rate : ℕ) → is_rate rate ≡ true
    → (number_of (read_runtime l rate) ≡ 1) ↔ ((p : TextParts) → ¬ RuntimeShape l p)

-- refusal 2 exactly when the shape fits, but a field has over 9 digits or the fraction over 6
abbrev pub RefusedTwo : Type 0
RefusedTwo = (l : List ℕ) (rate : ℕ) → is_rate rate ≡ true → (number_of (read_runtime l rate) ≡ 2) ↔ HasRuntimeShape l true

-- and no refusal has a place
abbrev pub PlaceNone : Type 0
PlaceNone = (l : List ℕ) (rate : ℕ) (e : Refusal) → read_runtime l rate ≡ Err e → e.place ≡ 0

-- ---- the count, and 5
-- the time of a runtime's parts, in millionths of a second
abbrev pub time_of : TextParts → ℕ
time_of p = time_in (justified (map value_of p.fields)) (millionths_of p.tail)

-- a text is a runtime, nothing too long, and this is the frame nearest to it: its time times the frames of a second
pub record RuntimeCount (l : List ℕ) (rate : ℕ) (z : ℤ) : Type 0 where
  pub parts : TextParts
  pub shape : RuntimeShape l parts
  pub short : runtime_long parts ≡ false
  pub nearest :
      Nearest (signed parts.minus (time_of parts * (rate_row rate).numerator)) (1_000_000 * (rate_row rate).denominator) z

-- a runtime is read as the nearest frame exactly when that is within its bounds
abbrev pub RuntimeCounted : Type 0
RuntimeCounted =
    (l : List ℕ) (rate : ℕ) (z : ℤ) → is_rate rate ≡ true
    → (read_runtime l rate ≡ Ok (timecode z rate)) ↔ (RuntimeCount l rate z × (is_count z ≡ true))

-- a text has a nearest frame, and it is outside its bounds
pub record CountOut (l : List ℕ) (rate : ℕ) : Type 0 where
  pub z : ℤ
  pub count : RuntimeCount l rate z
  pub out : is_count z ≡ false

-- refusal 5 exactly when the resulting count is outside its bounds
abbrev pub RefusedFive : Type 0
RefusedFive = (l : List ℕ) (rate : ℕ) → is_rate rate ≡ true → (number_of (read_runtime l rate) ≡ 5) ↔ CountOut l rate

-- whatever the text, the count is within its bounds
abbrev pub CountBounded : Type 0
CountBounded = (l : List ℕ) (rate : ℕ) → is_count (timecode_of (read_runtime l rate)).count ≡ true

-- and what is read is at the rate
abbrev pub AtRate : Type 0
AtRate = (l : List ℕ) (rate : ℕ) (tc : Timecode) → read_runtime l rate ≡ Ok tc → tc.rate ≡ rate
