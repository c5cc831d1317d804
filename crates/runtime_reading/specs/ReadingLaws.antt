-- Laws of a runtime's reading that callers cite (BEHAVIOUR: Text shapes): each test, and that over 20,000,000 seconds are beyond the bounds at every rate.
-- Assumes nothing.
use Rattle.std.specs.Prelude.{ℕ, ◌*◌, ◌≤◌, ◌<◌, ◌≡◌, Bool, true, false, List, Err}
use Rattle.std.proofs.Common.{mul-le-mul, arith, sym, ◌∙◌}
use Rattle.std.proofs.Math.Path.{ap}
use Rattle.std.proofs.lemmas.Bool.{lt-leb}
use Rattle.std.proofs.Math.IntN.{nat_abs}
use Rattle.numbers.specs.Sign.{signed}
use Rattle.numbers.specs.SignLaws.{abs-signed}
use Rattle.numbers.specs.Nearest.{nearest_n, nearest_z}
use Rattle.numbers.specs.NearestLaws.{near-exact, near-mono}
use Rattle.numbers.specs.NearestSignedLaws.{nearest-abs}
use Rattle.answers.specs.Refusals.{no_such, out_of_bounds, most_count, held}
use Rattle.answers.specs.Laws.{held_out}
use Rattle.rates.specs.Rates.{is_rate, rate_row}
use Rattle.rates.proofs.Sound.{sound}
use Rattle.timecodes.specs.Timecode.{placed}
use Rattle.timecodes.specs.AdmittedLaws.{placed-held}
use Rattle.runtime_scan.specs.Runtime.{runtime_scan}
use Rattle.runtime_scan.specs.Statements.{RuntimeBounds}
use Rattle.runtime_reading.specs.Reading.{whole_seconds, time_in, runtime_frame, time_read, read_scan, read_runtime}

-- ---- a text
module _ (text : List ℕ) (rate : ℕ) where
  pub no_rate : is_rate rate ≡ false → read_runtime text rate ≡ Err no_such
  unfolding read_runtime
  no_rate e = simp e

  pub read-scanned : is_rate rate ≡ true → read_runtime text rate ≡ read_scan rate (runtime_scan text)
  unfolding read_runtime
  read-scanned e = simp e

-- a time is its frame, held to the bounds
pub time_read-held : (rate : ℕ) (minus : Bool) (time : ℕ) → time_read rate minus time ≡ placed rate (held (runtime_frame rate minus time))
unfolding time_read
time_read-held rate minus time = sym (placed-held rate (runtime_frame rate minus time))

-- ---- a time that is read: fields of at most 9 digits, and a short one times the frames of a second, wrap nowhere
module _ (fields : List ℕ) (millionths : ℕ) (b : RuntimeBounds fields millionths) where
  pub seconds-small : whole_seconds fields < 4_000_000_000_000
  seconds-small = omega (arith, b.below 1, b.below 2, b.below 3)

  pub product_small :
      (rate : ℕ) → is_rate rate ≡ true → whole_seconds fields ≤ 20_000_000
      → time_in fields millionths * (rate_row rate).numerator < 2_000_000_000_000_000_000
  product_small rate rated short =
      let most : time_in fields millionths ≤ 20_000_001_000_000 = omega (arith, b.fraction) in
      omega (arith, mul-le-mul most (sound rate rated).numerator_most)

-- ---- a long time: a second has at least 23 frames
module _ (rate : ℕ) (minus : Bool) (seconds time : ℕ) (rated : is_rate rate ≡ true) (whole : 1_000_000 * seconds ≤ time) where
  frames-least : 23 * seconds ≤ nearest_n (time * (rate_row rate).numerator) (1_000_000 * (rate_row rate).denominator)
  frames-least =
      let row = sound rate rated in
      let n = 1_000_000 * (rate_row rate).denominator in
      let step : 0 < n = omega (arith, row.denominator_pos) in
      let less : 23 * seconds * n ≤ time * (rate_row rate).numerator = omega (arith, mul-le-mul whole row.slowest) in
      omega (arith, near-exact (23 * seconds) n step, near-mono (23 * seconds * n) (time * (rate_row rate).numerator) n step less)

  pub held-beyond : 20_000_000 < seconds → held (runtime_frame rate minus time) ≡ Err out_of_bounds
  unfolding runtime_frame
  held-beyond long =
      let a = time * (rate_row rate).numerator in
      let n = 1_000_000 * (rate_row rate).denominator in
      let z = nearest_z (signed minus a) n in
      let size : nat_abs z ≡ nearest_n a n = nearest-abs (signed minus a) n ∙ ap (λ (x : ℕ). nearest_n x n) (abs-signed minus a) in
      held_out z (lt-leb (nat_abs z) most_count (omega (arith, size, frames-least)))
