-- Product with p/q (BEHAVIOUR: Arithmetic): rounded.
-- Assumes nothing.
use Rattle.answers.specs.declared.Refusal.{Refusal}
use Rattle.std.specs.Prelude.{ℕ, List, [], ◌∷◌, ◌++◌, ℤ, ◌*ℤ◌, Result, Ok, Err}
use Rattle.numbers.specs.Nearest.{nearest_z}
use Rattle.answers.specs.Order.{Condition, unless}
use Rattle.timecodes.specs.declared.Timecode.{Timecode}
use Rattle.answers.specs.Refusals.{bad_count}
use Rattle.timecodes.specs.Timecode.{recounted}
use Rattle.timecodes.specs.Admitted.{admits_length}
use Rattle.time.specs.Bounds.{bad_factor}

-- count x p over q at the nearest, halves away from zero
abbrev pub product_of : (count p : ℤ) (q : ℕ) → ℤ
product_of count p q = nearest_z (count *ℤ p) q

-- 5 of the factor, then 5 of the resulting count
abbrev pub product_when : (count p : ℤ) (q : ℕ) → List Condition
product_when count p q = bad_factor p q ∷ bad_count (product_of count p q) ∷ []

unfoldable pub product_counted : (count p : ℤ) (q : ℕ) → Result ℤ Refusal
product_counted count p q = unless Err (product_when count p q) (Ok (product_of count p q))

-- before them 6, 15 and 5 of the timecode
abbrev pub mul_when : Timecode → (p : ℤ) (q : ℕ) → List Condition
mul_when tc p q = admits_length tc ++ product_when tc.count p q

unfoldable pub mul_of : Timecode → (p : ℤ) (q : ℕ) → Result Timecode Refusal
mul_of tc p q = unless Err (mul_when tc p q) (Ok (recounted tc (product_of tc.count p q)))
