-- What a runtime's shape gives: the answer of each case.
-- Assumes nothing.
use Rattle.std.specs.Prelude.{Err}
use Prim.Native.Nat.{ℕ, ◌*◌, ◌<◌}
use native.Mathlib.Omega.{arith}
use mathlib.Core.Path.{◌≡◌, sym, ap, ◌∙◌}
use mathlib.Core.List.{List}
use mathlib.Core.Bool.{true, false}
use lib.IntN.{ℤ}
use Rattle.numbers.specs.Sign.{signed}
use Rattle.numbers.specs.Nearest.{nearest_z}
use Rattle.numbers.proofs.Statements.{nearest_is, nearest_one}
use Rattle.answers.specs.Refusals.{no_shape, too_long, held}
use Rattle.rates.specs.Rates.{is_rate, rate_row}
use Rattle.rates.proofs.Sound.{sound}
use Rattle.timecodes.specs.Timecode.{placed}
use Rattle.scanner.specs.Shapes.{TextParts}
use Rattle.runtime_scan.specs.Shape.{RuntimeShape, runtime_long, HasRuntimeShape}
use Rattle.runtime_scan.proofs.Statements.{runtime_reads, runtime_too_long, runtime-long-place, runtime-none-fit}
use Rattle.runtime_reading.specs.Reading.{runtime_frame, time_read, read_scan, read_runtime}
use Rattle.runtime_reading.specs.ReadingLaws.{read-scanned, time_read-held}
use Rattle.runtime_reading.specs.Statements.{time_of, RuntimeCount}

module _ (l : List ℕ) (rate : ℕ) (rated : is_rate rate ≡ true) where
  pub gives_none : ((p : TextParts) → ¬ RuntimeShape l p) → read_runtime l rate ≡ Err no_shape
  gives_none h = read-scanned l rate rated ∙ ap (read_scan rate) (runtime-none-fit l h).1

  pub gives-long : HasRuntimeShape l true → read_runtime l rate ≡ Err too_long
  gives-long h = let s = runtime-long-place l h in read-scanned l rate rated ∙ ap (read_scan rate) ((runtime_too_long l s.0).1 s.1)

  pub gives-held : (p : TextParts) → RuntimeShape l p → runtime_long p ≡ false → read_runtime l rate ≡ placed rate (held (runtime_frame rate p.minus (time_of p)))
  gives-held p shape short =
      read-scanned l rate rated ∙ ap (read_scan rate) (runtime_reads l p shape short) ∙ time_read-held rate p.minus (time_of p)

  -- ---- the nearest frame
  module _ (p : TextParts) where
    abbrev pub frame : ℤ
    frame = nearest_z (signed p.minus (time_of p * (rate_row rate).numerator)) (1_000_000 * (rate_row rate).denominator)

    step : 0 < 1_000_000 * (rate_row rate).denominator
    step = omega (arith, (sound rate rated).denominator_pos)

    pub counted : RuntimeShape l p → runtime_long p ≡ false → RuntimeCount l rate frame
    counted shape short =
        record {
          parts = p;
          shape = shape;
          short = short;
          nearest = nearest_is (signed p.minus (time_of p * (rate_row rate).numerator)) (1_000_000 * (rate_row rate).denominator) step;
        }

  pub gives-count : (z : ℤ) → RuntimeCount l rate z → read_runtime l rate ≡ placed rate (held z)
  unfolding runtime_frame
  gives-count z x =
      let p = x.parts in
      let frames = signed p.minus (time_of p * (rate_row rate).numerator) in
      gives-held p x.shape x.short
      ∙ sym (ap (λ (y : ℤ). placed rate (held y)) (nearest_one frames (1_000_000 * (rate_row rate).denominator) z (step p) x.nearest))
