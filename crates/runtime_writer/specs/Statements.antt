-- What holds of a written runtime beyond one call (BEHAVIOUR: Time): the statements, in order. Proofs: proofs/Statements.antt.
-- Assumes nothing.
use Rattle.std.specs.Prelude.{ℕ, ◌+◌, ◌*◌, ◌^◌, ◌≤◌, ◌<◌, ◌≡◌, List, [], ◌∷◌, ◌++◌, true, length, ℤ, pos, nat_abs}
use Rattle.numbers.specs.Sign.{is_neg}
use Rattle.numbers.specs.Nearest.{Nearest}
use Rattle.answers.specs.Refusals.{is_count}
use Rattle.rates.specs.Rates.{is_rate, rate_row}
use Rattle.digits.specs.Digits.{IsField, value_of}
use Rattle.digits.specs.Statements.{Padded}
use Rattle.written.specs.Parts.{sign_text}
use Rattle.runtime_writer.specs.Fraction.{fraction_text}
use Rattle.runtime_writer.specs.RuntimeText.{runtime_text}

-- ---- the fraction
-- one digit is kept
abbrev pub SomeDigit : Type 0
SomeDigit = (k n : ℕ) → 0 < length (fraction_text k n)

-- a zero stands last only alone
abbrev pub NoLastZero : Type 0
NoLastZero = (k n : ℕ) (l : List ℕ) → fraction_text k n ≡ l ++ (48 ∷ []) → l ≡ []

-- with the dropped zeros behind it again a fraction has k digits, and is n
pub record Zeroed (k n : ℕ) (fraction : List ℕ) : Type 0 where
  pub zeros : ℕ
  pub long : 0 < k → length fraction + zeros ≡ k
  pub value : value_of fraction * 10 ^ zeros ≡ n

-- of a number of at most k digits nothing is lost
abbrev pub SameValue : Type 0
SameValue = (k n : ℕ) → n < 10 ^ k → Zeroed k n (fraction_text k n)

-- ---- the whole
-- a runtime is a sign, three fields of two digits at least divided by `:`, `.` and a fraction; minutes and seconds are under 60; and what
-- these are worth, in units of 10 ^ k a second, is the nearest of the absolute time, halves away from zero
pub record WrittenRuntime (rate k : ℕ) (count : ℤ) : Type 0 where
  pub hours : List ℕ
  pub minutes : List ℕ
  pub seconds : List ℕ
  pub fraction : List ℕ
  pub rest : ℕ
  pub text : runtime_text rate k count ≡ sign_text (is_neg count) ++ (hours ++ (58 ∷ minutes ++ (58 ∷ seconds ++ (46 ∷ fraction))))
  pub hours_padded : Padded 2 hours
  pub minutes_padded : Padded 2 minutes
  pub seconds_padded : Padded 2 seconds
  pub minutes_under : value_of minutes < 60
  pub seconds_under : value_of seconds < 60
  pub fraction_field : IsField fraction
  pub fraction_zeroed : Zeroed k rest fraction
  pub nearest :
      Nearest (pos (nat_abs count * (rate_row rate).denominator * 10 ^ k)) (rate_row rate).numerator
      (pos ((3600 * value_of hours + 60 * value_of minutes + value_of seconds) * 10 ^ k + rest))

-- every runtime that is written at a rate has this shape: the nearest time to its precision
abbrev pub RuntimeNearest : Type 0
RuntimeNearest = (rate k : ℕ) (count : ℤ) → is_rate rate ≡ true → WrittenRuntime rate k count

-- a line with eighteen bytes from its place on has room for the runtime of any count within the bounds
abbrev pub EighteenBytes : Type 0
EighteenBytes =
    (rate k : ℕ) (count : ℤ) → is_rate rate ≡ true → is_count count ≡ true → k ≤ 6 → length (runtime_text rate k count) ≤ 18
