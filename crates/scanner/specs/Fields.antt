-- The divided fields in front of a text, by recursion over how many may come, and what the scanner keeps of them (BEHAVIOUR: Text shapes).
-- Assumes nothing.
use Rattle.std.specs.Prelude.{ℕ, zero, suc, ◌+◌, List, [], ◌∷◌, map, Bool, true, false, length, drop, None, Result, Ok}
use Rattle.digits.specs.Digits.{field_value}
use Rattle.scanner.specs.declared.cursor.Cursor.{Cursor}
use Rattle.scanner.specs.declared.cursor.Field.{Field}
use Rattle.scanner.specs.declared.fields.Dividers.{Dividers}
use Rattle.scanner.specs.declared.fields.Scanned.{Scanned}
use Rattle.scanner.specs.declared.text.Misfit.{Misfit}
use Rattle.scanner.specs.Long.{placed, first_long, long_field, or_long}
use Rattle.scanner.specs.Justified.{zeros, justified, shift}
use Rattle.scanner.specs.Scan.{cursor, divider_of, looked_for}
use Rattle.scanner.specs.Then.{field_then, byte_then, only_if}

-- ---- the fields in front of a text
-- whether the last one begun is there, the digits of each, and how many bytes they and their dividers take
pub record Front : Type 0 where
  pub found : Bool
  pub fields : List (List ℕ)
  pub taken : ℕ

-- none
abbrev pub no_field : Front
no_field = record { found = false; fields = []; taken = 0 }

-- one
abbrev pub one_field : (field : List ℕ) → Front
one_field field = record { found = true; fields = field ∷ []; taken = length field }

-- one, a divider, and others behind it
abbrev pub field_and : (field : List ℕ) → Front → Front
field_and field others = record { found = others.found; fields = field ∷ others.fields; taken = length field + suc others.taken }

-- one to so many fields, each two divided; behind the last that may come no divider is looked for
unfoldable pub fields_in : Dividers → (most : ℕ) → List ℕ → Front
fields_in d zero l = no_field
fields_in d (suc k) l = field_then no_field (λ field. byte_then (looked_for k (divider_of d)) (one_field field) (λ rest. field_and field (fields_in d k rest))) l

-- ---- what the scanner keeps
-- no field yet
abbrev pub none_taken : Cursor → Scanned
none_taken first = record { long = None; count = 0; values = zeros 4; next = first }

-- a field more
abbrev pub with_field : Scanned → Field → Scanned
with_field taken field =
    record {
      long = or_long taken.long (long_field taken.next.at 9 field.count);
      count = taken.count + 1;
      values = shift taken.values field.value;
      next = field.next;
    }

-- a field is begun at this cursor
abbrev pub field_begun : Scanned → Cursor → Scanned
field_begun taken next = record { long = taken.long; count = taken.count; values = taken.values; next = next }

-- the fields of a text from a place on
abbrev pub scanned_of : (at : ℕ) → Front → Scanned
scanned_of at front =
    record {
      long = first_long (placed (λ place. []) at front.fields);
      count = length front.fields;
      values = justified (map field_value front.fields);
      next = cursor (at + front.taken);
    }

-- where the last one begun is there
abbrev pub found_of : (at : ℕ) → Front → Result Scanned Misfit
found_of at front = only_if front.found (at + front.taken) (Ok (scanned_of at front))

unfoldable pub fields_found : Dividers → (most : ℕ) (text : List ℕ) (at : ℕ) → Result Scanned Misfit
fields_found d most text at = found_of at (fields_in d most (drop at text))
