-- What stands at a cursor (BEHAVIOUR: Text shapes): `l` is what is left of the text from the place `at` on.
-- Assumes nothing.
use Rattle.std.specs.Prelude.{ℕ, zero, suc, ◌+◌, List, [], ◌∷◌, Bool, true, false, ◌||◌, eqb, ltb, Option, Some, None, Result, Ok}
use Rattle.digits.specs.Digits.{is_byte, field_value, first_is, span, leading}
use Rattle.scanner.specs.declared.cursor.Cursor.{Cursor}
use Rattle.scanner.specs.declared.cursor.Field.{Field}
use Rattle.scanner.specs.declared.cursor.Sign.{Sign}
use Rattle.scanner.specs.declared.cursor.Tail.{Tail}
use Rattle.scanner.specs.declared.fields.Dividers.{Dividers}
use Rattle.scanner.specs.declared.fields.Dividers.TheVariants.{Colon, ColonOrSemicolon, Plus}
use Rattle.scanner.specs.declared.text.Misfit.{Misfit}
use Rattle.scanner.specs.Then.{byte_then, only_if}

-- the cursor at a place
abbrev pub cursor : ℕ → Cursor
cursor at = record { at = at }

-- ---- bytes
-- a label's fields are divided by `:` or `;`
abbrev pub is_divider : ℕ → Bool
is_divider c = eqb c 58 || eqb c 59

-- the bytes that divide two fields
abbrev pub divider_of : Dividers → ℕ → Bool
divider_of Colon = is_byte 58
divider_of ColonOrSemicolon = is_divider
divider_of Plus = is_byte 43

-- a byte is looked for only where something may still come behind it
abbrev pub looked_for : (left : ℕ) (test : ℕ → Bool) → ℕ → Bool
looked_for zero test = λ c. false
looked_for (suc n) test = test

-- the cursor past the byte in front of l, if one stands there that passes the test
abbrev pub passed : Bool → (at : ℕ) → Option Cursor
passed true at = Some (cursor (at + 1))
passed false at = None

unfoldable pub past_if : (test : ℕ → Bool) (at : ℕ) (l : List ℕ) → Option Cursor
past_if test at l = passed (first_is test l) at

-- nothing is left
abbrev pub is_end : List ℕ → Bool
is_end [] = true
is_end (c ∷ l) = false

-- ---- digits
-- the digits in front of l: what they are read as, how many they are, and the cursor past them
unfoldable pub field_of : (at : ℕ) (l : List ℕ) → Field
field_of at l = record { value = field_value (leading l); count = span l; next = cursor (at + span l) }

-- ---- an optional byte
-- `-` in front or not, and the cursor where the text goes on
abbrev pub sign_by : Bool → (at : ℕ) → Sign
sign_by true at = record { minus = true; next = cursor (at + 1) }
sign_by false at = record { minus = false; next = cursor at }

unfoldable pub sign_of : (at : ℕ) (l : List ℕ) → Sign
sign_of at l = sign_by (first_is (is_byte 45) l) at

-- no `.`, and so no digits behind it
abbrev pub no_tail : (at : ℕ) → Tail
no_tail at = record { value = 0; count = 0; first = cursor at; next = cursor at }

-- the digits behind `.`, one at least
abbrev pub tail_after : (at : ℕ) (l : List ℕ) → Result Tail Misfit
tail_after at l =
    only_if (ltb 0 (span l)) at
    (Ok (record { value = field_value (leading l); count = span l; first = cursor at; next = cursor (at + span l) }))

-- `.` and digits, or no `.`; where no digit is allowed, no `.` is looked for
unfoldable pub tail_of : (most at : ℕ) (l : List ℕ) → Result Tail Misfit
tail_of most at l = byte_then (looked_for most (is_byte 46)) (Ok (no_tail at)) (tail_after (at + 1)) l
