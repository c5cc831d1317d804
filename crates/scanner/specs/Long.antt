-- How many digits a field may have (BEHAVIOUR: Text shapes, Places): a field of over 9 is too long; and where the first such begins.
-- Assumes nothing.
use Rattle.std.specs.Prelude.{ℕ, ◌+◌, ◌≤◌, List, [], ◌∷◌, Bool, false, ◌||◌, cond, ltb, length, Option, Some, None}
use Rattle.digits.specs.Digits.{IsField}

-- so many digits are over the most allowed
abbrev pub is_over : (most count : ℕ) → Bool
is_over most count = ltb most count

-- a field of so many digits has over 9
abbrev pub is_long : (count : ℕ) → Bool
is_long count = is_over 9 count

-- some field has over 9 digits
unfoldable pub fields_long : (fields : List (List ℕ)) → Bool
fields_long [] = false
fields_long (d ∷ ds) = is_long (length d) || fields_long ds

-- a field of at most 9 digits
pub record ShortField (d : List ℕ) : Type 0 where
  pub is : IsField d
  pub short : length d ≤ 9

-- ---- the fields of a text, left to right
-- a field: the place of its first digit, its digits, and how many it may have
pub record PlacedField : Type 0 where
  pub place : ℕ
  pub digits : List ℕ
  pub most : ℕ

abbrev pub placed_field : (place : ℕ) (digits : List ℕ) (most : ℕ) → PlacedField
placed_field place digits most = record { place = place; digits = digits; most = most }

-- divided fields from a place on, each behind the one before it and the byte that divides them; and what stands a byte behind the last
abbrev pub placed : (behind : ℕ → List PlacedField) (place : ℕ) (fields : List (List ℕ)) → List PlacedField
placed behind place [] = behind place
placed behind place (d ∷ ds) = placed_field place d 9 ∷ placed behind (place + length d + 1) ds

-- a tail, where there is one
abbrev pub placed_tail : (most : ℕ) (tail : List ℕ) (place : ℕ) → List PlacedField
placed_tail most [] place = []
placed_tail most (b ∷ tail) place = placed_field place (b ∷ tail) most ∷ []

-- a field of so many digits at a place: too long, or not
abbrev pub long_field : (place most count : ℕ) → Option ℕ
long_field place most count = cond (is_over most count) (Some place) None

-- the first of two
abbrev pub or_long : Option ℕ → Option ℕ → Option ℕ
or_long None other = other
or_long (Some place) other = Some place

-- the first digit of the first field that is too long
abbrev pub first_long : List PlacedField → Option ℕ
first_long [] = None
first_long (f ∷ fs) = cond (is_over f.most (length f.digits)) (Some f.place) (first_long fs)
