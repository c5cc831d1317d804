-- The fraction of a runtime (BEHAVIOUR: Time): trailing zeros dropped but one digit kept.
-- Assumes nothing.
use Rattle.std.specs.Prelude.{ℕ, zero, suc, ◌/◌, ◌%◌, List, [], ◌∷◌, cond, eqb}
use Rattle.digits.specs.Digits.{digits_of}

-- n in k digits, a zero at the end dropped while it is not the only digit; `0` at precision 0
unfoldable pub fraction_text : (k n : ℕ) → List ℕ
fraction_text zero n = 48 ∷ []
fraction_text (suc zero) n = digits_of 1 n
fraction_text (suc (suc k)) n = cond (eqb (n % 10) 0) (fraction_text (suc k) (n / 10)) (digits_of (suc (suc k)) n)
