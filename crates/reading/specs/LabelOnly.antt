-- What a text reads as where only a label may stand (BEHAVIOUR: Text shapes). Proofs: proofs/LabelOnly.antt.
-- Assumes nothing.
use Rattle.std.specs.Prelude.{ℕ, ◌≡◌, ◌↔◌, ◌⊎◌, List, Bool, true, false, pos, None, Ok, Err}
use Rattle.beginnings.specs.Beginning.{LongestBeginning}
use Rattle.answers.specs.declared.Refusal.{Refusal}
use Rattle.answers.specs.Causes.{refusal_number}
use Rattle.answers.specs.Refusals.{at_place, no_such, no_shape}
use Rattle.rates.specs.Rates.{is_rate}
use Rattle.timecodes.specs.declared.kinds.Kind.{Kind}
use Rattle.timecodes.specs.declared.kinds.Kind.TheVariants.{Position}
use Rattle.timecodes.specs.Timecode.{position}
use Rattle.label_scan.specs.Shape.{HasLabelShape, IsLabel}
use Rattle.reading.specs.declared.Read.TheVariants.{Label}
use Rattle.reading.specs.For.{read_for, label_for}
use Rattle.reading.specs.Positions.{DayText}

-- 6: no such rate
abbrev pub LabelNoRate : Type 0
LabelNoRate = (kind : Kind) (l : List ℕ) (rate : ℕ) → is_rate rate ≡ false → label_for kind l rate ≡ Err no_such

-- a text of a label's shape reads as the text reader reads it, with its refusals and places
abbrev pub LabelAsRead : Type 0
LabelAsRead =
    (kind : Kind) (l : List ℕ) (rate : ℕ) (long : Bool) → HasLabelShape l long → label_for kind l rate ≡ read_for kind l None rate

-- any other, a footage too, is refused 1; the place is the length of the longest beginning of the text that also begins some label
abbrev pub LabelNone : Type 0
LabelNone =
    (kind : Kind) (l : List ℕ) (rate place : ℕ) → is_rate rate ≡ true → ((long : Bool) → ¬ HasLabelShape l long)
    → LongestBeginning IsLabel l place → label_for kind l rate ≡ Err (at_place no_shape place)

-- it is the position of a count exactly when it is an allowed label of the day, without a sign, and this is its count
abbrev pub LabelPosition : Type 0
LabelPosition =
    (l : List ℕ) (rate n : ℕ) → is_rate rate ≡ true → (label_for Position l rate ≡ Ok (Label (position (pos n) rate))) ↔ DayText l None rate n

-- one of the refusals of a position's label: 1, 2, 14 or 3
abbrev pub LabelsOwn : Refusal → Type 0
LabelsOwn e = ((refusal_number e) ≡ 1) ⊎ (((refusal_number e) ≡ 2) ⊎ (((refusal_number e) ≡ 14) ⊎ ((refusal_number e) ≡ 3)))

-- any text at a rate is a position's label with its count, or is refused so: no footage, and no count out of bounds
abbrev pub LabelOrOwn : Type 0
LabelOrOwn =
    (l : List ℕ) (rate : ℕ) → is_rate rate ≡ true
    → ((n : ℕ) × (label_for Position l rate ≡ Ok (Label (position (pos n) rate)))) ⊎ ((e : Refusal) × ((label_for Position l rate ≡ Err e) × LabelsOwn e))
