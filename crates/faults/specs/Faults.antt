-- What is at fault in a text (BEHAVIOUR: Why): a field, its value, and the nearest that is allowed there.
-- Assumes nothing.
use Rattle.std.specs.Prelude.{ℕ, ◌-◌, ◌<◌, ◌≡◌, Bool, true, false, cond, ltb, leb, eqb, ℤ, nat_abs, ◌-ℤ◌, Option, Some, None}
use Rattle.std.specs.Option as option
use Rattle.std.specs.Option.{option_or}
use Rattle.numbers.specs.Sign.{signed}
use Rattle.answers.specs.Refusals.{most_count}
use Rattle.faults.specs.declared.Field.{Field}
use Rattle.faults.specs.declared.Field.TheVariants.{Count, Sign}
use Rattle.faults.specs.declared.Fault.{Fault}

-- ---- what is right
-- a value is not allowed, the limit is, and every other allowed value is farther away
pub record NearestAllowed (Allowed : ℤ → Type 0) (limit value : ℤ) : Type 0 where
  pub not_allowed : ¬ Allowed value
  pub allowed : Allowed limit
  pub farther : (x : ℤ) → Allowed x → ¬ (x ≡ limit) → nat_abs (limit -ℤ value) < nat_abs (x -ℤ value)

-- the limit of a fault and its value, with their sign
abbrev pub limit_of : Fault → ℤ
limit_of f = signed f.minus f.limit

abbrev pub value_of : Fault → ℤ
value_of f = signed f.minus f.value

-- ---- how it is found
abbrev pub fault : Field → (minus : Bool) (limit value : ℕ) → Fault
fault field minus limit value = record { field = field; minus = minus; limit = limit; value = value }

-- whether there is none
abbrev pub is_none : Option Fault → Bool
is_none found = option.is_none found

-- a field whose values lie under a bound: the limit is the last of them
unfoldable pub under : Field → (bound value : ℕ) → Option Fault
under field bound value = cond (ltb value bound) None (Some (fault field false (bound - 1) value))

-- a field that has one value only
unfoldable pub exactly : Field → (only value : ℕ) → Option Fault
exactly field only value = cond (eqb value only) None (Some (fault field false only value))

-- a sign where none may be: both are 0
abbrev pub sign_fault : (minus : Bool) → Option Fault
sign_fault true = Some (fault Sign false 0 0)
sign_fault false = None

-- a count outside its bounds: the limit is the bound on its side of zero
unfoldable pub count_fault : (minus : Bool) (m : ℕ) → Option Fault
count_fault minus m = cond (leb m most_count) None (Some (fault Count minus most_count m))

-- the one to the left, or where it has none the other
abbrev pub leftmost : (left right : Option Fault) → Option Fault
leftmost left right = option_or left right
