-- The fraction is what is kept of its digits; the whole is worth its units, of which the nearest was taken; and it is short.
-- Assumes nothing.
use Prim.Native.Nat.{ℕ, ◌+◌, ◌*◌, ◌/◌, ◌%◌, ◌^◌}
use mathlib.Core.Path.{◌≡◌, refl, ap}
use mathlib.Core.List.{append_assoc}
use native.Mathlib.Omega.{arith}
use native.Mathlib.Nat.{div-add-mod', mod-lt}
use lib.IntN.{pos, nat_abs}
use borrow.Author.Tests.{leb-true}
use Rattle.numbers.specs.Sign.{is_neg}
use Rattle.numbers.proofs.Statements.{nearest_is}
use Rattle.answers.specs.Refusals.{most_count}
use Rattle.rates.specs.Rates.{rate_row}
use Rattle.rates.proofs.Sound.{sound}
use Rattle.digits.specs.Digits.{value_of, decimal}
use Rattle.digits.proofs.Width.{decimal_back}
use Rattle.digits.proofs.Statements.{decimal_padded}
use Rattle.written.specs.Clock.{clock_text}
use Rattle.runtime_writer.specs.Fraction.{fraction_text}
use Rattle.runtime_writer.specs.RuntimeText.{runtime_units, clock_hours, clock_minutes, clock_seconds, units_text, runtime_text}
use Rattle.runtime_writer.specs.Statements.{SomeDigit, NoLastZero, SameValue, RuntimeNearest, EighteenBytes}
use Rattle.runtime_writer.proofs.Fraction.{fraction-length, fraction-digits, fraction-last, fraction-back}
use Rattle.runtime_writer.proofs.Powers.{ten-pos}
use Rattle.runtime_writer.proofs.Short.{seconds-few, units-short}

pub some_digit : SomeDigit
some_digit k n = (fraction-length k n).0

pub no_last_zero : NoLastZero
no_last_zero = fraction-last

pub same_value : SameValue
same_value = fraction-back

-- what the fields are worth are the units
worth : (k units s : ℕ) → s ≡ units / 10 ^ k
    → (3600 * value_of (decimal 2 (clock_hours s)) + 60 * value_of (decimal 2 (clock_minutes s)) + value_of (decimal 2 (clock_seconds s))) * 10 ^ k + units % 10 ^ k
    ≡ units
worth k units s e =
    let clock : 3600 * value_of (decimal 2 (clock_hours s)) + 60 * value_of (decimal 2 (clock_minutes s)) + value_of (decimal 2 (clock_seconds s)) ≡ s =
    omega (arith, decimal_back 2 (clock_hours s), decimal_back 2 (clock_minutes s), decimal_back 2 (clock_seconds s)) in
    omega (arith, ap (λ x. x * 10 ^ k) clock, ap (λ x. x * 10 ^ k) e, div-add-mod' units (10 ^ k))

pub runtime_nearest : RuntimeNearest
unfolding runtime_text units_text clock_text runtime_units
runtime_nearest rate k count h =
    let row = rate_row rate in
    let units = runtime_units rate k (nat_abs count) in
    let s = units / 10 ^ k in
    let n = units % 10 ^ k in
    record {
      hours = decimal 2 (clock_hours s);
      minutes = decimal 2 (clock_minutes s);
      seconds = decimal 2 (clock_seconds s);
      fraction = fraction_text k n;
      rest = n;
      text = simp append_assoc;
      hours_padded = decimal_padded 2 (clock_hours s);
      minutes_padded = decimal_padded 2 (clock_minutes s);
      seconds_padded = decimal_padded 2 (clock_seconds s);
      minutes_under = rw (decimal_back 2 (clock_minutes s)) (omega arith);
      seconds_under = rw (decimal_back 2 (clock_seconds s)) (omega arith);
      fraction_field = record { some = some_digit k n; digits = fraction-digits k n };
      fraction_zeroed = same_value k n (mod-lt units (ten-pos k));
      nearest = rw (worth k units s refl) (nearest_is (pos (nat_abs count * row.denominator * 10 ^ k)) row.numerator (sound rate h).numerator_pos);
    }

pub eighteen_bytes : EighteenBytes
unfolding runtime_text runtime_units
eighteen_bytes rate k count r h p =
    let row = sound rate r in
    units-short (is_neg count) k (runtime_units rate k (nat_abs count)) p
    (seconds-few (nat_abs count) _ _ (10 ^ k) (leb-true (nat_abs count) most_count h) row.slowest row.numerator_pos (ten-pos k))
