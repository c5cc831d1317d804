-- What acts on the count alone (BEHAVIOUR: Arithmetic): negation, absolute value, and `rebase`, which keeps it.
-- Assumes nothing.
use Rattle.answers.specs.declared.Refusal.{Refusal}
use Rattle.std.specs.Prelude.{ℕ, List, ◌∷◌, pos, neg_ℤ, nat_abs, Result, Ok, Err}
use Rattle.answers.specs.Order.{Condition, unless}
use Rattle.timecodes.specs.declared.Timecode.{Timecode}
use Rattle.rates.specs.Rates.{bad_rate}
use Rattle.timecodes.specs.Timecode.{moved, recounted}
use Rattle.timecodes.specs.Admitted.{admits_length}

-- negation acts on the count: 6, 15, 5, else it negated
unfoldable pub neg_of : Timecode → Result Timecode Refusal
neg_of tc = unless Err (admits_length tc) (Ok (recounted tc (neg_ℤ tc.count)))

-- absolute value acts on the count: 6, 15, 5, else its magnitude
unfoldable pub abs_of : Timecode → Result Timecode Refusal
abs_of tc = unless Err (admits_length tc) (Ok (recounted tc (pos (nat_abs tc.count))))

-- `rebase` keeps the count: 6 for either rate, 15, 5, else it
abbrev pub rebase_when : Timecode → (rate : ℕ) → List Condition
rebase_when tc rate = bad_rate rate ∷ admits_length tc

unfoldable pub rebase_of : Timecode → (rate : ℕ) → Result Timecode Refusal
rebase_of tc rate = unless Err (rebase_when tc rate) (Ok (moved tc tc.count rate))
