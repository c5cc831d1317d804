-- Integer division truncates, its remainder takes the dividend's sign (BEHAVIOUR: Arithmetic). The division that floors: Flooring.antt.
-- Assumes nothing.
use Rattle.answers.specs.declared.Refusal.{Refusal}
use Rattle.std.specs.Prelude.{List, [], ◌∷◌, ◌++◌, ℤ, Result, Ok, Err}
use Rattle.std.specs.Int.Signed.{quot_z, rem_z}
use Rattle.answers.specs.Order.{Condition, unless}
use Rattle.timecodes.specs.declared.Timecode.{Timecode}
use Rattle.timecodes.specs.Timecode.{recounted}
use Rattle.timecodes.specs.Admitted.{admits_length}
use Rattle.arithmetic.specs.Divisor.{bad_divisor}

-- 7, else count over n, cut off toward zero; and what that leaves of the count, with its sign
unfoldable pub quotient_counted : (count n : ℤ) → Result ℤ Refusal
quotient_counted count n = unless Err (bad_divisor n ∷ []) (Ok (quot_z count n))

unfoldable pub remainder_counted : (count n : ℤ) → Result ℤ Refusal
remainder_counted count n = unless Err (bad_divisor n ∷ []) (Ok (rem_z count n))

-- 6, 15, 5, 7
abbrev pub div_when : Timecode → (n : ℤ) → List Condition
div_when tc n = admits_length tc ++ (bad_divisor n ∷ [])

unfoldable pub div_of : Timecode → (n : ℤ) → Result Timecode Refusal
div_of tc n = unless Err (div_when tc n) (Ok (recounted tc (quot_z tc.count n)))

unfoldable pub rem_of : Timecode → (n : ℤ) → Result Timecode Refusal
rem_of tc n = unless Err (div_when tc n) (Ok (recounted tc (rem_z tc.count n)))
