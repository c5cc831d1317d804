-- Numbers in a line (docs/ASK.md): behind a space an optional `-` and one or more digits, within 64 bits signed; zeros in front are fine.
-- Assumes nothing.
use Rattle.std.specs.Prelude.{None, Option, Some, ℤ}
use Rattle.std.specs.Prelude.{ℕ, ◌+◌, ◌<◌, ◌≡◌, ◌⊎◌, List, Bool, true, false, cond, eqb, ltb, leb, drop}
use Rattle.numbers.specs.Sign.{signed}
use Rattle.digits.specs.Digits.{is_byte, value_of, first_is, span, leading}
use Rattle.asking.specs.declared.values.Word.{Word}

-- a number and the place past it
abbrev pub some_word : (number : ℤ) (next : ℕ) → Option Word
some_word number next = Some (record { number = number; next = next })

-- ---- within 64 bits signed
-- from -2^63 to 2^63 - 1
abbrev pub is_within : (minus : Bool) (m : ℕ) → Bool
is_within true m = leb m 9223372036854775808
is_within false m = ltb m 9223372036854775808

-- the number of a sign and a magnitude, and the place past it; none where it is not within 64 bits
unfoldable pub signed_word : (minus : Bool) (m next : ℕ) → Option Word
signed_word minus m next = cond (is_within minus m) (some_word (signed minus m) next) None

-- ---- in a line: l is what is left of it from the place `at` on
-- the digits in front, behind their sign
unfoldable pub digits_at : (minus : Bool) (at : ℕ) → List ℕ → Option Word
digits_at minus at l = cond (eqb (span l) 0) None (signed_word minus (value_of (leading l)) (at + span l))

-- an optional `-`, and the digits behind it
unfoldable pub signed_at : (at : ℕ) → List ℕ → Option Word
signed_at at l = cond (first_is (is_byte 45) l) (digits_at true (at + 1) (drop 1 l)) (digits_at false at l)

-- a space, and the number behind it
unfoldable pub number_at : (at : ℕ) → List ℕ → Option Word
number_at at l = cond (first_is (is_byte 32) l) (signed_at (at + 1) (drop 1 l)) None

-- ---- what the code holds of a value: the value, or where that is past 2^63 some number past it
abbrev pub Held : (value m : ℕ) → Type 0
Held value m = (m ≡ value) ⊎ ((9223372036854775808 < value) × (9223372036854775808 < m))
