-- What a text reads as, by its shape (BEHAVIOUR: Text shapes): each text in one way, and each fit exactly. Proofs: proofs/Statements.antt.
-- Assumes nothing.
use Rattle.std.specs.Prelude.{ℕ, ◌^◌, ◌<◌, ◌≡◌, ◌↔◌, List, map, false, length, Ok, Err}
use Rattle.beginnings.specs.Beginning.{LongestBeginning}
use Rattle.digits.specs.Digits.{value_of}
use Rattle.scanner.specs.declared.text.Misfit.TheVariants.{TooLong, NoShape}
use Rattle.scanner.specs.Justified.{justified, Below}
use Rattle.scanner.specs.Shapes.{TextParts}
use Rattle.runtime_scan.specs.declared.RuntimeScan.{RuntimeScan}
use Rattle.runtime_scan.specs.Shape.{RuntimeShape, millionths_of, runtime_long, HasRuntimeShape, IsRuntime, LongRuntime}
use Rattle.runtime_scan.specs.Runtime.{fitting_runtime, runtime_scan}

-- a text of the shape, no field of over 9 digits and no fraction of over 6, reads as its sign, the values of its fields, right-justified,
-- absent ones zero, and its fraction in millionths
abbrev pub RuntimeReads : Type 0
RuntimeReads =
    (l : List ℕ) (p : TextParts) → RuntimeShape l p → runtime_long p ≡ false
    → runtime_scan l ≡ Ok (fitting_runtime p.minus (justified (map value_of p.fields)) (millionths_of p.tail))

-- a text fits exactly when it has the shape, and no field has over 9 digits and no fraction over 6
abbrev pub RuntimeFits : Type 0
RuntimeFits = (l : List ℕ) → ((scan : RuntimeScan) × (runtime_scan l ≡ Ok scan)) ↔ HasRuntimeShape l false

-- it is too long exactly when it has the shape, but a field has over 9 digits or the fraction over 6; the first such begins at the place
abbrev pub RuntimeTooLong : Type 0
RuntimeTooLong = (l : List ℕ) (place : ℕ) → (runtime_scan l ≡ Err (TooLong place)) ↔ LongRuntime l place

-- it has no shape exactly when it has not this one; where the scan stopped is the length of the longest beginning that also begins a runtime
abbrev pub RuntimeNoShape : Type 0
RuntimeNoShape =
    (l : List ℕ) (stop : ℕ)
    → (runtime_scan l ≡ Err (NoShape stop)) ↔ (((p : TextParts) → ¬ RuntimeShape l p) × LongestBeginning IsRuntime l stop)

-- a text has the shape in one way only
abbrev pub OneRuntimeShape : Type 0
OneRuntimeShape = (l : List ℕ) (p q : TextParts) → RuntimeShape l p → RuntimeShape l q → p ≡ q

-- the answer has four fields, each below 10^9, and fewer than 10^6 millionths
pub record RuntimeBounds (fields : List ℕ) (millionths : ℕ) : Type 0 where
  pub four : length fields ≡ 4
  pub below : Below fields
  pub fraction : millionths < 10 ^ 6

-- so it is with every text that fits
abbrev pub RuntimeBounded : Type 0
RuntimeBounded = (l : List ℕ) (scan : RuntimeScan) → runtime_scan l ≡ Ok scan → RuntimeBounds scan.fields scan.millionths
