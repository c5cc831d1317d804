-- Division by p/q floors (BEHAVIOUR: Arithmetic). The division that truncates: Truncating.antt.
-- Assumes nothing.
use Rattle.answers.specs.declared.Refusal.{Refusal}
use Rattle.std.specs.Prelude.{ℕ, List, [], ◌∷◌, ◌++◌, ℤ, pos, ◌*ℤ◌, Result, Ok, Err}
use Rattle.numbers.specs.Floor.{floor_z}
use Rattle.answers.specs.Order.{Condition, unless}
use Rattle.timecodes.specs.declared.Timecode.{Timecode}
use Rattle.answers.specs.Refusals.{bad_count}
use Rattle.timecodes.specs.Timecode.{recounted}
use Rattle.timecodes.specs.Admitted.{admits_length}
use Rattle.arithmetic.specs.Divisor.{divisor_when}

-- count x q over p, rounded down
abbrev pub floored_of : (count p : ℤ) (q : ℕ) → ℤ
floored_of count p q = floor_z (count *ℤ pos q) p

-- 5 of the divisor, 7, then 5 of the resulting count
abbrev pub floored_when : (count p : ℤ) (q : ℕ) → List Condition
floored_when count p q = divisor_when p q ++ (bad_count (floored_of count p q) ∷ [])

unfoldable pub floored_counted : (count p : ℤ) (q : ℕ) → Result ℤ Refusal
floored_counted count p q = unless Err (floored_when count p q) (Ok (floored_of count p q))

-- before them 6, 15 and 5 of the timecode
abbrev pub divq_when : Timecode → (p : ℤ) (q : ℕ) → List Condition
divq_when tc p q = admits_length tc ++ floored_when tc.count p q

unfoldable pub divq_of : Timecode → (p : ℤ) (q : ℕ) → Result Timecode Refusal
divq_of tc p q = unless Err (divq_when tc p q) (Ok (recounted tc (floored_of tc.count p q)))
