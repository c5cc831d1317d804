-- The order of refusals (BEHAVIOUR: Refusals): a list of conditions, of which the first that holds refuses.
-- Assumes nothing.
use Rattle.std.specs.Prelude.{ℕ, ◌≡◌, Bool, false, cond, List, [], ◌∷◌, Result, Ok, Err}
use Rattle.answers.specs.declared.Refusal.{Refusal}
use Rattle.answers.specs.Causes.{refusal_number}

-- a refusal, and whether its condition holds
pub record Condition : Type 0 where
  pub refusal : Refusal
  pub holds : Bool

abbrev pub when : Refusal → Bool → Condition
when e holds = record { refusal = e; holds = holds }

-- the first refusal in the order whose condition holds; where none does, the answer
abbrev pub unless : {A : Type 0} (refused : Refusal → A) → List Condition → (answer : A) → A
unless refused [] answer = answer
unless refused (c ∷ rest) answer = cond c.holds (refused c.refusal) (unless refused rest answer)

-- the number that is given: that of the first condition that holds; 0 where none does
abbrev pub first : List Condition → ℕ
first [] = 0
first (c ∷ rest) = cond c.holds (refusal_number c.refusal) (first rest)

-- none of the refusals has a place in a text
abbrev pub NoPlaces : List Condition → Type 0
NoPlaces [] = Unit {0}
NoPlaces (c ∷ rest) = (c.refusal.place ≡ 0) × NoPlaces rest

-- whether a call goes on behind these conditions, or why it is refused
abbrev pub judged : List Condition → Result (Unit {0}) Refusal
judged conditions = unless Err conditions (Ok tt)

-- no condition holds
abbrev pub Clear : List Condition → Type 0
Clear [] = Unit {0}
Clear (c ∷ rest) = (c.holds ≡ false) × Clear rest
