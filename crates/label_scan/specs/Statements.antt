-- What a text reads as, by its shape (BEHAVIOUR: Text shapes): each text in one way, and each fit exactly. Proofs: proofs/Statements.antt.
-- Assumes nothing.
use Rattle.std.specs.Prelude.{ℕ, ◌^◌, ◌<◌, ◌≡◌, ◌↔◌, List, [], ◌∷◌, ◌++◌, map, Bool, true, false, Ok, Err}
use Rattle.beginnings.specs.Beginning.{LongestBeginning}
use Rattle.digits.specs.Digits.{value_of, decimal}
use Rattle.scanner.specs.declared.text.Misfit.TheVariants.{TooLong, NoShape}
use Rattle.scanner.specs.Long.{fields_long}
use Rattle.scanner.specs.Justified.{justified}
use Rattle.scanner.specs.Scan.{is_divider}
use Rattle.scanner.specs.Shapes.{with_minus}
use Rattle.label_scan.specs.declared.LabelScan.{LabelScan}
use Rattle.label_scan.specs.Shape.{LabelShape, HasLabelShape, IsLabel, LongLabel}
use Rattle.label_scan.specs.Label.{fitting_label, label_scan}

-- a text of the shape, no field of over 9 digits, reads as its sign and the values of its fields, right-justified, absent ones zero
abbrev pub LabelReads : Type 0
LabelReads =
    (l : List ℕ) (minus : Bool) (fields : List (List ℕ)) → LabelShape l minus fields → fields_long fields ≡ false
    → label_scan l ≡ Ok (fitting_label minus (justified (map value_of fields)))

-- a text fits exactly when it has the shape, and no field has over 9 digits
abbrev pub LabelFits : Type 0
LabelFits = (l : List ℕ) → ((scan : LabelScan) × (label_scan l ≡ Ok scan)) ↔ HasLabelShape l false

-- it is too long exactly when it has the shape, but a field has over 9 digits; the first such begins at the place
abbrev pub LabelTooLong : Type 0
LabelTooLong = (l : List ℕ) (place : ℕ) → (label_scan l ≡ Err (TooLong place)) ↔ LongLabel l place

-- it has no shape exactly when it has not this one; where the scan stopped is the length of the longest beginning that also begins a label
abbrev pub LabelNoShape : Type 0
LabelNoShape =
    (l : List ℕ) (stop : ℕ)
    → (label_scan l ≡ Err (NoShape stop))
    ↔ (((minus : Bool) (fields : List (List ℕ)) → ¬ LabelShape l minus fields) × LongestBeginning IsLabel l stop)

-- a text has the shape in one way only
abbrev pub OneLabelShape : Type 0
OneLabelShape =
    (l : List ℕ) (m n : Bool) (ds es : List (List ℕ)) → LabelShape l m ds → LabelShape l n es → (m ≡ n) × (ds ≡ es)

-- four numbers below 10^9, written in two digits at least and divided by `:` or `;`, a `-` in front or none, read as these numbers
abbrev pub LabelBack : Type 0
LabelBack =
    (minus : Bool) (h m s f a b c : ℕ) → h < 10 ^ 9 → m < 10 ^ 9 → s < 10 ^ 9 → f < 10 ^ 9
    → is_divider a ≡ true → is_divider b ≡ true → is_divider c ≡ true
    → label_scan (with_minus minus (decimal 2 h ++ (a ∷ decimal 2 m ++ (b ∷ decimal 2 s ++ (c ∷ decimal 2 f)))))
    ≡ Ok (fitting_label minus (h ∷ m ∷ s ∷ f ∷ []))
