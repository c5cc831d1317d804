-- What a text reads as, by its shape (BEHAVIOUR: Text shapes): each text in one way, and each fit exactly. Proofs: proofs/Statements.antt.
-- Assumes nothing.
use Rattle.std.specs.Prelude.{ℕ, ◌^◌, ◌<◌, ◌≡◌, ◌↔◌, List, [], ◌∷◌, ◌++◌, Bool, true, false, Ok, Err}
use Rattle.beginnings.specs.Beginning.{LongestBeginning}
use Rattle.digits.specs.Digits.{value_of, decimal}
use Rattle.scanner.specs.declared.text.Misfit.TheVariants.{TooLong, NoShape}
use Rattle.scanner.specs.Shapes.{with_minus}
use Rattle.footage_scan.specs.declared.FootageScan.{FootageScan}
use Rattle.footage_scan.specs.Shape.{FootageParts, FootageShape, has_perf, footage_long, HasFootageShape, IsFootage, LongFootage}
use Rattle.footage_scan.specs.Footage.{fitting_footage, footage_scan}

-- a text of the shape, no field of over 9 digits, reads as its sign, the values of its feet and frames, whether it has a perf field, and
-- the value of that
abbrev pub FootageReads : Type 0
FootageReads =
    (l : List ℕ) (p : FootageParts) → FootageShape l p → footage_long p ≡ false
    → footage_scan l ≡ Ok (fitting_footage p.minus (value_of p.feet) (value_of p.frames) (has_perf p.perf) (value_of p.perf))

-- a perf field is present exactly when it has a digit: of any value and any number of digits
abbrev pub PerfPresent : Type 0
PerfPresent = (perf : List ℕ) → (has_perf perf ≡ false) ↔ (perf ≡ [])

-- a text fits exactly when it has the shape, and no field has over 9 digits
abbrev pub FootageFits : Type 0
FootageFits = (l : List ℕ) → ((scan : FootageScan) × (footage_scan l ≡ Ok scan)) ↔ HasFootageShape l false

-- it is too long exactly when it has the shape, but a field has over 9 digits; the first such begins at the place
abbrev pub FootageTooLong : Type 0
FootageTooLong = (l : List ℕ) (place : ℕ) → (footage_scan l ≡ Err (TooLong place)) ↔ LongFootage l place

-- it has no shape exactly when it has not this one; where the scan stopped is the length of the longest beginning that also begins a footage
abbrev pub FootageNoShape : Type 0
FootageNoShape =
    (l : List ℕ) (stop : ℕ)
    → (footage_scan l ≡ Err (NoShape stop)) ↔ (((p : FootageParts) → ¬ FootageShape l p) × LongestBeginning IsFootage l stop)

-- a text has the shape in one way only
abbrev pub OneFootageShape : Type 0
OneFootageShape = (l : List ℕ) (p q : FootageParts) → FootageShape l p → FootageShape l q → p ≡ q

-- whatever the text that fits, the numbers answered are below 10^9
abbrev pub FootageBelow : Type 0
FootageBelow =
    (l : List ℕ) (scan : FootageScan) → footage_scan l ≡ Ok scan
    → (scan.feet < 10 ^ 9) × (scan.frames < 10 ^ 9) × (scan.marker < 10 ^ 9)

-- a footage that is written, its numbers below 10^9, is read as these numbers: without a perf field and with one
abbrev pub FootageTextBack : Type 0
FootageTextBack =
    (minus : Bool) (feet frames : ℕ) → feet < 10 ^ 9 → frames < 10 ^ 9
    → (footage_scan (with_minus minus (decimal 1 feet ++ 43 ∷ decimal 2 frames)) ≡ Ok (fitting_footage minus feet frames false 0))
    × ((perf : ℕ) → perf < 10 ^ 9
    → footage_scan (with_minus minus (decimal 1 feet ++ 43 ∷ (decimal 2 frames ++ 46 ∷ decimal 1 perf))) ≡ Ok (fitting_footage minus feet frames true perf))
