-- Reading (BEHAVIOUR: Text shapes): what a text reads as, by its shape; the conditions in their order.
-- Assumes nothing.
use Rattle.answers.specs.declared.Refusal.{Refusal}
use Rattle.std.specs.Prelude.{ℕ, Bool, not, ◌||◌, List, [], ◌∷◌, ℤ, Option, Ok, Err, Result}
use Rattle.numbers.specs.Sign.{signed}
use Rattle.answers.specs.Order.{Condition, when, unless}
use Rattle.answers.specs.Refusals.{dropped_label, no_perf_field, bad_count}
use Rattle.rates.specs.Rates.{bad_rate, drop_frames}
use Rattle.timecodes.specs.Timecode.{timecode}
use Rattle.film.specs.declared.FilmFormat.{FilmFormat}
use Rattle.film.specs.Film.{allows_perf_field}
use Rattle.film.specs.Footage.{footage_count}
use Rattle.film.specs.OnFilm.{bad_footage}
use Rattle.labels.specs.Label.{dropped_in}
use Rattle.labels.specs.AtRate.{label_frames}
use Rattle.reading.specs.declared.Read.{Read}
use Rattle.reading.specs.declared.Read.TheVariants.{Label, Footage}
use Rattle.reading.specs.Shaped.{bad_stated, format_for, Shaped, label, footage, refused, shape_of}

-- a label: 3, dropped at rate 5 or 11, sign ignored; then 5 of the resulting count
abbrev pub label_read_when : (rate : ℕ) (minus : Bool) (fields : List ℕ) → List Condition
label_read_when rate minus fields =
    when dropped_label (dropped_in (drop_frames rate) fields) ∷ bad_count (label_frames rate minus fields) ∷ []

-- else its count, negated for `-`, at the rate
unfoldable pub label_read : (rate : ℕ) (minus : Bool) (fields : List ℕ) → Result Read Refusal
label_read rate minus fields =
    unless Err (label_read_when rate minus fields) (Ok (Label (timecode (label_frames rate minus fields) rate)))

-- a perf field is absent, or the format has one
abbrev pub takes_perf : FilmFormat → (perf : Bool) → Bool
takes_perf format perf = not perf || allows_perf_field format

-- the count of a footage, then the sign
abbrev pub footage_frames : FilmFormat → (minus : Bool) (feet frames : ℕ) → ℤ
footage_frames format minus feet frames = signed minus (footage_count format feet frames)

-- a footage: 4, a perf field with a stated format that has none (where none is stated, the one chosen has it); 13, it cannot be on the
-- film, sign ignored; then 5 of the resulting count
abbrev pub footage_read_when : FilmFormat → (minus : Bool) (feet frames : ℕ) (perf : Bool) (marker : ℕ) → List Condition
footage_read_when format minus feet frames perf marker =
    when no_perf_field (not (takes_perf format perf)) ∷ bad_footage format feet frames perf marker ∷ bad_count (footage_frames format minus feet frames) ∷ []

-- else its count at the rate, together with the film format
unfoldable pub footage_read : (rate : ℕ) → FilmFormat → (minus : Bool) (feet frames : ℕ) (perf : Bool) (marker : ℕ) → Result Read Refusal
footage_read rate format minus feet frames perf marker =
    unless Err (footage_read_when format minus feet frames perf marker) (Ok (Footage (timecode (footage_frames format minus feet frames) rate) format))

-- what was taken by its shape; 1 and 2 come before it
abbrev pub read_shaped : (rate : ℕ) → Option ℕ → Shaped → Result Read Refusal
read_shaped rate stated (label minus fields) = label_read rate minus fields
read_shaped rate stated (footage minus feet frames perf marker) = footage_read rate (format_for stated perf) minus feet frames perf marker
read_shaped rate stated (refused e) = Err e

-- 6: no such rate (1 to 12) or film format (1 to 4); then what the shape gives
abbrev pub read_when : Option ℕ → (rate : ℕ) → List Condition
read_when stated rate = bad_rate rate ∷ bad_stated stated ∷ []

unfoldable pub read_text : (text : List ℕ) → Option ℕ → (rate : ℕ) → Result Read Refusal
read_text text stated rate = unless Err (read_when stated rate) (read_shaped rate stated (shape_of stated text))
