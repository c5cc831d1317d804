-- Reading in steps (BEHAVIOUR: Text shapes): what stands in front of a text, and then what the rest gives; for any type of answers.
-- Assumes nothing.
use Rattle.std.specs.Prelude.{ℕ, List, [], ◌∷◌, Bool, true, false, drop, Result, Ok, Err}
use Rattle.digits.specs.Digits.{first_is, span, leading}
use Rattle.scanner.specs.declared.text.Misfit.{Misfit}
use Rattle.scanner.specs.declared.text.Misfit.TheVariants.{NoShape}

-- a field, and then what it and the rest give; `none` where no field stands
abbrev pub field_by : {A : Type 0} (none : A) (then : (field : List ℕ) → List ℕ → A) (field : List ℕ) → List ℕ → A
field_by none then [] rest = none
field_by none then (b ∷ d) rest = then (b ∷ d) rest

unfoldable pub field_then : {A : Type 0} (none : A) (then : (field : List ℕ) → List ℕ → A) → List ℕ → A
field_then none then l = field_by none then (leading l) (drop (span l) l)

-- a byte that passes the test, and then what the rest gives; `other` where none such stands
abbrev pub byte_by : {A : Type 0} → Bool → (other : A) (then : List ℕ → A) → List ℕ → A
byte_by true other then l = then (drop 1 l)
byte_by false other then l = other

unfoldable pub byte_then : {A : Type 0} (test : ℕ → Bool) (other : A) (then : List ℕ → A) → List ℕ → A
byte_then test other then l = byte_by (first_is test l) other then l

-- ---- steps that may stop
-- what a step gives; where it does not go on, the scan stops at a place
abbrev pub only_if : {A : Type 0} (goes_on : Bool) (stop : ℕ) → Result A Misfit → Result A Misfit
only_if true stop r = r
only_if false stop r = Err (NoShape stop)

-- a step, and then what the next gives of what it found
abbrev pub and_then : {A B : Type 0} (then : A → Result B Misfit) → Result A Misfit → Result B Misfit
and_then then (Ok x) = then x
and_then then (Err misfit) = Err misfit
