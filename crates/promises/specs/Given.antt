-- Demand 1, what a refusal is: the number and the place in any answer, and what is given behind conditions.
-- Assumes nothing.
use Rattle.std.specs.Prelude.{◌≡◌, List, Result, Ok, Err, ℕ}
use Rattle.answers.specs.declared.Refusal.{Refusal}
use Rattle.answers.specs.Order.{Condition, first}
use Rattle.answers.specs.Refusals.{number_of}

-- the place in an answer; 0 where nothing is refused
abbrev pub place_in : {A : Type 0} → Result A Refusal → ℕ
place_in (Ok a) = 0
place_in (Err e) = e.place

-- what is given behind conditions that speak of no text: the number of the first that holds, 0 where none does, and place 0
pub record Given {A : Type 0} (conditions : List Condition) (answer : Result A Refusal) : Type 0 where
  pub number : number_of answer ≡ first conditions
  pub place : place_in answer ≡ 0
