-- The remainder of division by p/q (BEHAVIOUR: Arithmetic): (f x q rem p)/q, dividend's sign, rounded.
-- Assumes nothing.
use Rattle.answers.specs.declared.Refusal.{Refusal}
use Rattle.std.specs.Prelude.{ℕ, List, [], ◌∷◌, ◌++◌, ℤ, pos, ◌*ℤ◌, Result, Ok, Err}
use Rattle.std.specs.Int.Signed.{rem_z}
use Rattle.numbers.specs.Nearest.{nearest_z}
use Rattle.answers.specs.Order.{Condition, unless}
use Rattle.timecodes.specs.declared.Timecode.{Timecode}
use Rattle.answers.specs.Refusals.{bad_count}
use Rattle.timecodes.specs.Timecode.{recounted}
use Rattle.timecodes.specs.Admitted.{admits_length}
use Rattle.arithmetic.specs.Divisor.{divisor_when}

-- (count x q rem p)/q at the nearest, halves away from zero
abbrev pub left_of : (count p : ℤ) (q : ℕ) → ℤ
left_of count p q = nearest_z (rem_z (count *ℤ pos q) p) q

-- 5 of the divisor, 7, then 5 of the resulting count
abbrev pub left_when : (count p : ℤ) (q : ℕ) → List Condition
left_when count p q = divisor_when p q ++ (bad_count (left_of count p q) ∷ [])

unfoldable pub left_counted : (count p : ℤ) (q : ℕ) → Result ℤ Refusal
left_counted count p q = unless Err (left_when count p q) (Ok (left_of count p q))

-- before them 6, 15 and 5 of the timecode
abbrev pub remq_when : Timecode → (p : ℤ) (q : ℕ) → List Condition
remq_when tc p q = admits_length tc ++ left_when tc.count p q

unfoldable pub remq_of : Timecode → (p : ℤ) (q : ℕ) → Result Timecode Refusal
remq_of tc p q = unless Err (remq_when tc p q) (Ok (recounted tc (left_of tc.count p q)))
