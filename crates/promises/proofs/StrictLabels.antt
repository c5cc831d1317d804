-- A strict two-digit label has eleven bytes, and is scanned as its fields.
-- Assumes nothing.
use Rattle.std.specs.Prelude.{Ok}
use Prim.Native.Nat.{ℕ, ◌^◌, ◌≤◌, ◌<◌}
use mathlib.Core.Path.{◌≡◌, sym, ap, ◌∙◌}
use mathlib.Core.Bool.{false}
use mathlib.Core.List.{List, ◌∷◌, ◌++◌}
use native.Mathlib.Omega.{arith}
use lib.ListN.{length, length-append}
use Rattle.digits.specs.Digits.{decimal}
use Rattle.digits.proofs.Values.{digits-length}
use Rattle.labels.specs.Label.{hours_in, minutes_in, seconds_in, frames_in}
use Rattle.label_scan.specs.Label.{fitting_label, label_scan}
use Rattle.label_scan.proofs.Statements.{label_back}
use Rattle.written.proofs.Parts.{decimal-short}
use Rattle.promises.specs.Demand2.{two_digit_text, StrictText}
use Rattle.promises.proofs.Read.{four-fields}

-- ---- a label in two digits each
-- fields that two digits are enough for
pub record TwoDigits (fields : List ℕ) : Type 0 where
  pub hours : hours_in fields < 10 ^ 2
  pub minutes : minutes_in fields < 10 ^ 2
  pub seconds : seconds_in fields < 10 ^ 2
  pub frames : frames_in fields < 10 ^ 2

-- are written in two
pub two_digits : (fields : List ℕ) (a b c : ℕ) → TwoDigits fields
    → decimal 2 (hours_in fields) ++ (a ∷ decimal 2 (minutes_in fields) ++ (b ∷ decimal 2 (seconds_in fields) ++ (c ∷ decimal 2 (frames_in fields))))
    ≡ two_digit_text fields a b c
two_digits fields a b c x =
    rw (
      decimal-short 2 (hours_in fields) (omega arith) x.hours,
      decimal-short 2 (minutes_in fields) (omega arith) x.minutes,
      decimal-short 2 (seconds_in fields) (omega arith) x.seconds,
      decimal-short 2 (frames_in fields) (omega arith) x.frames,
    )

-- eleven bytes
pub two-digit-length : (fields : List ℕ) (a b c : ℕ) → length (two_digit_text fields a b c) ≡ 11
two-digit-length fields a b c = simp (length-append, digits-length) (omega arith)

module _ (timebase : ℕ) (few : timebase ≤ 60) (fields text : List ℕ) (x : StrictText timebase fields text) where
  pub strict-digits : TwoDigits fields
  strict-digits =
      let s = x.strict in record { hours = omega arith; minutes = omega arith; seconds = omega arith; frames = omega arith }

  -- a strict label is scanned as its fields
  pub strict-scan : label_scan text ≡ Ok (fitting_label false fields)
  strict-scan =
      let t = strict-digits in
      ap label_scan (x.spelt ∙ sym (two_digits fields x.first x.second x.third t))
      ∙ label_back false (hours_in fields) (minutes_in fields) (seconds_in fields) (frames_in fields) x.first x.second x.third
      (omega arith) (omega arith) (omega arith) (omega arith) x.first_divides x.second_divides x.third_divides
      ∙ ap (λ (l : List ℕ). Ok (fitting_label false l)) (sym (four-fields fields x.strict.four))
