-- A runtime within the bounds has at most four digits of hours: no rate is slower than 23 frames a second.
-- Assumes nothing.
use Prim.Native.Nat.{ℕ, ◌*◌, ◌/◌, ◌%◌, ◌^◌, ◌≤◌, ◌<◌}
use mathlib.Core.Path.{◌≡◌}
use mathlib.Core.Bool.{Bool}
use mathlib.Core.List.{◌∷◌}
use native.Mathlib.Omega.{arith, by_contra}
use native.Mathlib.Nat.{mul-le-mul_left, mul-le-mul_right, mul-pos, div-mul-le_self}
use lib.ListN.{length, length-append}
use Rattle.numbers.specs.Nearest.{nearest_n}
use Rattle.numbers.specs.NearestLaws.{near-above}
use Rattle.answers.specs.Refusals.{most_count}
use Rattle.digits.specs.Digits.{decimal}
use Rattle.digits.proofs.Width.{width-at-most, decimal_length}
use Rattle.written.proofs.Parts.{sign-most, padded-length, clock-length}
use Rattle.runtime_writer.specs.Fraction.{fraction_text}
use Rattle.runtime_writer.specs.RuntimeText.{clock_hours, clock_minutes, clock_seconds, seconds_text, units_text}
use Rattle.runtime_writer.proofs.Fraction.{fraction-length}

-- f frames of d/n seconds each, in units of t a second: less than 36,000,000 seconds
pub seconds-few : (f d n t : ℕ) → f ≤ most_count → 23 * d ≤ n → 0 < n → 0 < t → nearest_n (f * d * t) n / t ≤ 35999999
seconds-few f d n t h slow n_pos t-pos =
    let u = nearest_n (f * d * t) n in
    by_contra (u / t) 35999999
    (λ more.
    let whole : 36000000 * t ≤ u = omega (arith, mul-le-mul_right t more, div-mul-le_self u t) in
    omega (
      arith,
      near-above (f * d * t) n n_pos,
      mul-le-mul_right n whole,
      mul-le-mul_right (d * t) h,
      mul-le-mul_right t slow,
      mul-le-mul_left n t-pos,
      mul-pos n_pos t-pos,
    ))

-- fields under 60 have two digits
two : (n : ℕ) → n < 60 → length (decimal 2 n) ≡ 2
two n h = omega (arith, decimal_length 2 n, width-at-most n 2 (omega arith) (omega arith))

-- and so the whole has at most eighteen bytes
pub units-short : (minus : Bool) (k units : ℕ) → k ≤ 6 → units / 10 ^ k ≤ 35999999 → length (units_text minus k units) ≤ 18
unfolding units_text
units-short minus k units h few =
    let s = units / 10 ^ k in
    omega (
      arith,
      length-append (seconds_text minus s) (46 ∷ fraction_text k (units % 10 ^ k)),
      clock-length minus (clock_hours s) (clock_minutes s) (clock_seconds s),
      padded-length minus 2 (clock_hours s),
      sign-most minus,
      width-at-most (clock_hours s) 4 (omega arith) (omega arith),
      two (clock_minutes s) (omega arith),
      two (clock_seconds s) (omega arith),
      fraction-length k (units % 10 ^ k),
    )
