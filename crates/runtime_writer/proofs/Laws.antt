-- How long the parts of a runtime are, and that the digits kept are the fraction's.
-- Assumes nothing.
use Prim.Native.Nat.{ℕ, ◌+◌, ◌/◌, ◌%◌, ◌^◌, ◌≤◌, max}
use mathlib.Core.Path.{◌≡◌, ap}
use mathlib.Core.List.{◌∷◌}
use mathlib.Core.Bool.{Bool}
use native.Mathlib.Omega.{arith}
use lib.ListN.{length, length-append}
use lib.IntN.{ℤ, nat_abs}
use Rattle.numbers.specs.Sign.{is_neg}
use Rattle.digits.specs.Digits.{digits_of}
use Rattle.digits.proofs.Values.{digits-length}
use Rattle.runtime_writer.specs.declared.Tail.{Tail}
use Rattle.runtime_writer.specs.Fraction.{fraction_text}
use Rattle.runtime_writer.specs.RuntimeText.{runtime_units, seconds_text, units_text, tail_text, runtime_text}
use Rattle.runtime_writer.proofs.Fraction.{fraction-length}

pub tail-length : (minus : Bool) (seconds : ℕ) (tail : Tail) → length (tail_text minus seconds tail) ≡ length (seconds_text minus seconds) + 1 + tail.width
tail-length minus seconds tail =
    omega (arith, length-append (seconds_text minus seconds) (46 ∷ digits_of tail.width tail.value), digits-length tail.width tail.value)

module _ (k n : ℕ) (tail : Tail) (e : digits_of tail.width tail.value ≡ fraction_text k n) where
  -- no more digits are kept than there are, but one
  pub tail-short : tail.width ≤ max 1 k
  tail-short = omega (arith, ap length e, digits-length tail.width tail.value, fraction-length k n)

-- the text by its digits, from what was called for, is the text of the runtime
pub tail-runtime : (rate k : ℕ) (count : ℤ) (minus : Bool) (units unit : ℕ) (tail : Tail)
    → minus ≡ is_neg count → units ≡ runtime_units rate k (nat_abs count) → unit ≡ 10 ^ k
    → digits_of tail.width tail.value ≡ fraction_text k (units % unit)
    → tail_text minus (units / unit) tail ≡ runtime_text rate k count
unfolding runtime_text units_text
tail-runtime rate k count minus units unit tail m u t e = rw (m, e, t, u)
