-- What a text reads as, by its shape (BEHAVIOUR: Text shapes): each refusal exactly, and the counts. Proofs: proofs/Statements.antt.
-- Assumes nothing.
use Rattle.std.specs.Prelude.{ℕ, ◌≤◌, ◌≡◌, ◌↔◌, ◌⊎◌, List, map, Bool, true, false, ℤ, Option, Some, None, Ok}
use Rattle.beginnings.specs.Beginning.{LongestBeginning, Either}
use Rattle.digits.specs.Digits.{value_of}
use Rattle.answers.specs.Refusals.{is_count}
use Rattle.rates.specs.Rates.{is_rate, drop_frames}
use Rattle.timecodes.specs.declared.Timecode.{Timecode}
use Rattle.timecodes.specs.Timecode.{timecode}
use Rattle.timecodes.specs.Admitted.{Valid}
use Rattle.film.specs.declared.FilmFormat.{FilmFormat}
use Rattle.film.specs.declared.FilmFormat.TheVariants.{FF35mm4perf, FF35mm3perf, FF35mm2perf, FF16mm}
use Rattle.film.specs.Film.{allows_perf_field}
use Rattle.film.specs.Statements.{Occurs, OnFilm, OffFilm}
use Rattle.labels.specs.Label.{dropped_in}
use Rattle.labels.specs.AtRate.{label_frames}
use Rattle.scanner.specs.Long.{fields_long}
use Rattle.scanner.specs.Justified.{justified}
use Rattle.label_scan.specs.Shape.{LabelShape, HasLabelShape, IsLabel, LongLabel}
use Rattle.footage_scan.specs.Shape.{FootageParts, FootageShape, has_perf, footage_long, HasFootageShape, IsFootage, LongFootage}
use Rattle.reading.specs.declared.Read.TheVariants.{Label, Footage}
use Rattle.reading.specs.Answer.{number_of, place_of, timecode_of}
use Rattle.reading.specs.Shaped.{is_stated, format_for}
use Rattle.reading.specs.Reading.{takes_perf, footage_frames, read_text}

-- no text has both shapes
abbrev pub ShapesApart : Type 0
ShapesApart =
    (l : List ℕ) (minus : Bool) (fields : List (List ℕ)) (p : FootageParts) → LabelShape l minus fields → ¬ FootageShape l p

-- ---- 6, 1, 2
-- refusal 6 exactly when there is no such rate or film format
abbrev pub RefusedSix : Type 0
RefusedSix =
    (l : List ℕ) (stated : Option ℕ) (rate : ℕ)
    → (number_of (read_text l stated rate) ≡ 6) ↔ ((is_rate rate ≡ false) ⊎ (is_stated stated ≡ false))

-- a rate, and a film format where one is stated
pub record RateAndFormat (stated : Option ℕ) (rate : ℕ) : Type 0 where
  pub rated : is_rate rate ≡ true
  pub filmed : is_stated stated ≡ true

-- a text has a shape: a label or a footage, but with a stated film format only a footage; and a field has over 9 digits, or none has
abbrev pub HasShape : Option ℕ → (l : List ℕ) (long : Bool) → Type 0
HasShape None l long = HasLabelShape l long ⊎ HasFootageShape l long
HasShape (Some n) l long = HasFootageShape l long

-- refusal 1 exactly when the text has no shape
abbrev pub RefusedOne : Type 0
RefusedOne =
    (l : List ℕ) (stated : Option ℕ) (rate : ℕ) → RateAndFormat stated rate
    → (number_of (read_text l stated rate) ≡ 1) ↔ ((long : Bool) → ¬ HasShape stated l long)

-- refusal 2 exactly when the shape fits, but a field has over 9 digits
abbrev pub RefusedTwo : Type 0
RefusedTwo =
    (l : List ℕ) (stated : Option ℕ) (rate : ℕ) → RateAndFormat stated rate
    → (number_of (read_text l stated rate) ≡ 2) ↔ HasShape stated l true

-- ---- the places of 1 and 2
-- a text of an allowed shape, fields of any length: a label or a footage, but with a stated film format only a footage, with a perf field
-- or without, whatever the format
abbrev pub AllowedShape : Option ℕ → List ℕ → Type 0
AllowedShape None = Either IsLabel IsFootage
AllowedShape (Some n) = IsFootage

-- refused with 1, the place is the length of the longest beginning of the text that also begins some text of an allowed shape
abbrev pub PlaceOne : Type 0
PlaceOne =
    (l : List ℕ) (stated : Option ℕ) (rate place : ℕ) → number_of (read_text l stated rate) ≡ 1
    → (place_of (read_text l stated rate) ≡ place) ↔ LongestBeginning (AllowedShape stated) l place

-- the first digit of the first field that is too long, of the shape that the text has, stands at this place
abbrev pub LongShape : Option ℕ → (l : List ℕ) (place : ℕ) → Type 0
LongShape None l place = LongLabel l place ⊎ LongFootage l place
LongShape (Some n) l place = LongFootage l place

-- refused with 2, the place is that of the first digit of the first field that is too long
abbrev pub PlaceTwo : Type 0
PlaceTwo =
    (l : List ℕ) (stated : Option ℕ) (rate place : ℕ) → number_of (read_text l stated rate) ≡ 2
    → (place_of (read_text l stated rate) ≡ place) ↔ LongShape stated l place

-- every other refusal has place 0, and so has a text that is read
abbrev pub PlaceElse : Type 0
PlaceElse =
    (l : List ℕ) (stated : Option ℕ) (rate : ℕ) → ¬ (number_of (read_text l stated rate) ≡ 1) → ¬ (number_of (read_text l stated rate) ≡ 2)
    → place_of (read_text l stated rate) ≡ 0

-- ---- the film format of a footage
-- a film format is stated by its number: 1 4-perf, 2 3-perf, 3 2-perf, 4 16 mm; with none stated, perf present means 3-perf, absent 4-perf
abbrev pub FormatChosen : Type 0
FormatChosen =
    ((perf : Bool)
    → (format_for (Some 1) perf ≡ FF35mm4perf) × (format_for (Some 2) perf ≡ FF35mm3perf)
    × (format_for (Some 3) perf ≡ FF35mm2perf) × (format_for (Some 4) perf ≡ FF16mm))
    × (format_for None true ≡ FF35mm3perf) × (format_for None false ≡ FF35mm4perf)

-- ---- 4
-- a text is a footage of these parts, no field of over 9 digits
pub record FootageText (l : List ℕ) (p : FootageParts) : Type 0 where
  pub shape : FootageShape l p
  pub short : footage_long p ≡ false

-- a perf field is present, and the stated film format has none (where none is stated, 3-perf is chosen, which has one)
pub record PerfRefused (l : List ℕ) (stated : Option ℕ) : Type 0 where
  pub parts : FootageParts
  pub text : FootageText l parts
  pub present : has_perf parts.perf ≡ true
  pub none : allows_perf_field (format_for stated true) ≡ false

-- refusal 4 exactly when a perf field is present, and the stated film format has none
abbrev pub RefusedFour : Type 0
RefusedFour =
    (l : List ℕ) (stated : Option ℕ) (rate : ℕ) → RateAndFormat stated rate
    → (number_of (read_text l stated rate) ≡ 4) ↔ PerfRefused l stated

-- ---- 13
-- a footage of these parts is one of this film format: the stated one, or that which the perf field chooses; and that has a perf field, if the
-- text has one
pub record InFormat (stated : Option ℕ) (p : FootageParts) (format : FilmFormat) : Type 0 where
  pub chosen : format_for stated (has_perf p.perf) ≡ format
  pub takes : takes_perf format (has_perf p.perf) ≡ true

-- a text is a footage that cannot be on the film: by its values, whatever its sign
pub record FilmRefused (l : List ℕ) (stated : Option ℕ) : Type 0 where
  pub parts : FootageParts
  pub text : FootageText l parts
  pub format : FilmFormat
  pub in-format : InFormat stated parts format
  pub off : OffFilm format (value_of parts.feet) (value_of parts.frames) (has_perf parts.perf) (value_of parts.perf)

-- refusal 13 exactly when the frames number does not occur in that foot, or the marker is present and is not feet modulo 3
abbrev pub RefusedThirteen : Type 0
RefusedThirteen =
    (l : List ℕ) (stated : Option ℕ) (rate : ℕ) → RateAndFormat stated rate
    → (number_of (read_text l stated rate) ≡ 13) ↔ FilmRefused l stated

-- an absent marker with stated 3-perf is allowed: 13 then exactly when the frames number does not occur in that foot
abbrev pub MarkerAbsent : Type 0
MarkerAbsent =
    (l : List ℕ) (rate : ℕ) (p : FootageParts) → is_rate rate ≡ true → FootageText l p → has_perf p.perf ≡ false
    → (number_of (read_text l (Some 2) rate) ≡ 13) ↔ (¬ Occurs FF35mm3perf (value_of p.feet) (value_of p.frames))

-- ---- 3
-- a text is a label with these four fields, none of over 9 digits
pub record LabelText (l : List ℕ) (minus : Bool) (fields : List ℕ) : Type 0 where
  pub digits : List (List ℕ)
  pub shape : LabelShape l minus digits
  pub short : fields_long digits ≡ false
  pub values : justified (map value_of digits) ≡ fields

-- a text is a dropped label, with `-` or without
pub record DroppedText (l : List ℕ) (rate : ℕ) : Type 0 where
  pub minus : Bool
  pub fields : List ℕ
  pub text : LabelText l minus fields
  pub dropped : dropped_in (drop_frames rate) fields ≡ true

-- refusal 3 exactly when the text is a dropped label, no film format stated
abbrev pub RefusedThree : Type 0
RefusedThree =
    (l : List ℕ) (stated : Option ℕ) (rate : ℕ) → RateAndFormat stated rate
    → (number_of (read_text l stated rate) ≡ 3) ↔ ((stated ≡ None) × DroppedText l rate)

-- ---- the count, and 5
-- a text is an allowed label, and this is its count
pub record LabelCount (l : List ℕ) (stated : Option ℕ) (rate : ℕ) (z : ℤ) : Type 0 where
  pub unstated : stated ≡ None
  pub minus : Bool
  pub fields : List ℕ
  pub text : LabelText l minus fields
  pub kept : dropped_in (drop_frames rate) fields ≡ false
  pub count : label_frames rate minus fields ≡ z

-- a text is a footage in a film format that takes it, which can be on the film, and this is its count
pub record FootageCount (l : List ℕ) (stated : Option ℕ) (format : FilmFormat) (z : ℤ) : Type 0 where
  pub parts : FootageParts
  pub text : FootageText l parts
  pub in-format : InFormat stated parts format
  pub on : OnFilm format (value_of parts.feet) (value_of parts.frames) (has_perf parts.perf) (value_of parts.perf)
  pub count : footage_frames format parts.minus (value_of parts.feet) (value_of parts.frames) ≡ z

-- a label is read as its count at the rate exactly when that is within its bounds
abbrev pub LabelCounted : Type 0
LabelCounted =
    (l : List ℕ) (stated : Option ℕ) (rate : ℕ) (z : ℤ) → RateAndFormat stated rate
    → (read_text l stated rate ≡ Ok (Label (timecode z rate))) ↔ (LabelCount l stated rate z × (is_count z ≡ true))

-- and a footage as its count at the rate together with the film format chosen
abbrev pub FootageCounted : Type 0
FootageCounted =
    (l : List ℕ) (stated : Option ℕ) (rate : ℕ) (format : FilmFormat) (z : ℤ) → RateAndFormat stated rate
    → (read_text l stated rate ≡ Ok (Footage (timecode z rate) format)) ↔ (FootageCount l stated format z × (is_count z ≡ true))

-- a text has a count, and it is outside its bounds
pub record CountOut (l : List ℕ) (stated : Option ℕ) (rate : ℕ) : Type 0 where
  pub z : ℤ
  pub count : LabelCount l stated rate z ⊎ ((format : FilmFormat) × FootageCount l stated format z)
  pub out : is_count z ≡ false

-- refusal 5 exactly when the resulting count is outside its bounds
abbrev pub RefusedFive : Type 0
RefusedFive =
    (l : List ℕ) (stated : Option ℕ) (rate : ℕ) → RateAndFormat stated rate
    → (number_of (read_text l stated rate) ≡ 5) ↔ CountOut l stated rate

-- whatever the text, the count is within its bounds
abbrev pub CountBounded : Type 0
CountBounded = (l : List ℕ) (stated : Option ℕ) (rate : ℕ) → is_count (timecode_of (read_text l stated rate)).count ≡ true

-- and what is read is at the rate
abbrev pub AtRate : Type 0
AtRate =
    (l : List ℕ) (stated : Option ℕ) (rate : ℕ) (tc : Timecode)
    → (read_text l stated rate ≡ Ok (Label tc) → tc.rate ≡ rate)
    × ((format : FilmFormat) → read_text l stated rate ≡ Ok (Footage tc format) → tc.rate ≡ rate)

-- so every operation admits it
abbrev pub ReadValid : Type 0
ReadValid =
    (l : List ℕ) (stated : Option ℕ) (rate : ℕ) (tc : Timecode)
    → (read_text l stated rate ≡ Ok (Label tc) → Valid tc) × ((format : FilmFormat) → read_text l stated rate ≡ Ok (Footage tc format) → Valid tc)

-- and a refusal has one of the numbers 1 to 6, or 13 (0: it is read)
abbrev pub NumbersGiven : Type 0
NumbersGiven = (l : List ℕ) (stated : Option ℕ) (rate : ℕ) → (number_of (read_text l stated rate) ≤ 6) ⊎ (number_of (read_text l stated rate) ≡ 13)
