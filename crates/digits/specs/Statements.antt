-- What holds of every number and every run of digits (BEHAVIOUR: Text shapes): each way back, and how wide a number is. Proofs: proofs/Statements.antt.
-- Assumes nothing.
use Rattle.std.specs.Prelude.{ℕ, ◌^◌, ◌≤◌, ◌<◌, max, ◌≡◌, ◌↔◌, List, true, length}
use Rattle.digits.specs.Digits.{all_digits, IsField, value_of, significant, digits_of, width, decimal}

-- every byte of a number's digits is a digit
abbrev pub AllDigits : Type 0
AllDigits = (k n : ℕ) → all_digits (digits_of k n) ≡ true

-- a number written and read is the number
abbrev pub DecimalBack : Type 0
DecimalBack = (k n : ℕ) → value_of (decimal k n) ≡ n

-- digits read and written, as many as they are, are these digits
abbrev pub ValueBack : Type 0
ValueBack = (d : List ℕ) → all_digits d ≡ true → digits_of (length d) (value_of d) ≡ d

-- digits have one value exactly when they are the same but for leading zeros
abbrev pub LeadingZeros : Type 0
LeadingZeros = (d e : List ℕ) → all_digits d ≡ true → all_digits e ≡ true → (value_of d ≡ value_of e) ↔ (significant d ≡ significant e)

-- a number written in k digits at least has k, or as many as it is wide
abbrev pub DecimalLength : Type 0
DecimalLength = (k n : ℕ) → length (decimal k n) ≡ max k (width n)

-- a number's width is the least number of digits, one or more, that are enough for it
abbrev pub WidthIs : Type 0
WidthIs = (n : ℕ) → (0 < width n) × (n < 10 ^ width n) × ((w : ℕ) → 0 < w → n < 10 ^ w → width n ≤ w)

-- a field padded to k digits: just as wide as its number, or k digits where that has fewer (a field padded to one digit is unpadded)
pub record Padded (k : ℕ) (field : List ℕ) : Type 0 where
  pub digits : IsField field
  pub long : length field ≡ max k (width (value_of field))

-- a number written in k digits at least is so padded
abbrev pub DecimalPadded : Type 0
DecimalPadded = (k n : ℕ) → Padded k (decimal k n)
