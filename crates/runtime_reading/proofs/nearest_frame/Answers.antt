-- `runtime_reading::nearest_frame` meets its contract: a long time is beyond the bounds, and of any other both terms of the exact value fit.
-- Assumes nothing.
use Rattle.std.specs.Prelude.{Err}
use mir.Syntax.{w64}
use mathlib.Core.Path.{◌≡◌, sym, ap, ap₂, ◌∙◌}
use Prim.Native.Nat.{ℕ, ◌*◌, ◌<◌}
use native.Mathlib.Omega.{arith}
use lib.IntN.{ℤ}
use mir.Facts.{to_z-of_z}
use Rattle.numbers.specs.Sign.{signed}
use Rattle.numbers.specs.Nearest.{nearest_z}
use Rattle.numbers.specs.Total.{fitted-in}
use Rattle.answers.specs.Refusals.{held}
use Rattle.rates.specs.declared.Framerate.{Framerate}
use Rattle.rates.specs.Rates.{rate_row}
use Rattle.rates.proofs.Sound.{sound}
use Rattle.runtime_reading.specs.Reading.{whole_seconds, time_in, runtime_frame}
use Rattle.runtime_reading.specs.ReadingLaws.{seconds-small, product_small, held-beyond}
use Rattle.runtime_reading.proofs.nearest_frame.Goals as goal
use Rattle.runtime_reading.proofs.nearest_frame.Goals.{After-row-row}

pub overflow_mul-seconds : goal.overflow_mul-seconds
overflow_mul-seconds c =
    omega (arith, seconds-small c.args.fields c.args.millionths c.requires.time)

pub overflow_mul-seconds-2 : goal.overflow_mul-seconds-2
overflow_mul-seconds-2 c =
    omega (arith, seconds-small c.args.fields c.args.millionths c.requires.time)

pub overflow_add-seconds : goal.overflow_add-seconds
overflow_add-seconds c =
    omega (arith, seconds-small c.args.fields c.args.millionths c.requires.time)

pub overflow_add-seconds-2 : goal.overflow_add-seconds-2
overflow_add-seconds-2 c =
    omega (arith, seconds-small c.args.fields c.args.millionths c.requires.time)

pub returns-then-seconds-gt-MOST_RUNTIME : goal.returns-then-seconds-gt-MOST_RUNTIME
returns-then-seconds-gt-MOST_RUNTIME c =
    ap Err c.into.ensures
    ∙ (sym (held-beyond c.args.rate c.args.minus (whole_seconds c.args.fields) (time_in c.args.fields c.args.millionths) c.requires.rate (omega arith) c.if-seconds-gt-MOST_RUNTIME.true))

-- the row's numbers
numerator-is : (c : After-row-row) → c.row-row.result.numerator ≡ (rate_row c.args.rate).numerator
numerator-is c =
    ap (λ (r : Framerate). r.numerator) c.row-row.ensures

denominator-is : (c : After-row-row) → c.row-row.result.denominator ≡ (rate_row c.args.rate).denominator
denominator-is c =
    ap (λ (r : Framerate). r.denominator) c.row-row.ensures

-- the frames of the time, not yet divided
frames_small : (c : After-row-row) → time_in c.args.fields c.args.millionths * c.row-row.result.numerator < 2_000_000_000_000_000_000
frames_small c =
    rw (numerator-is c)
    (product_small c.args.fields c.args.millionths c.requires.time c.args.rate c.requires.rate c.if-seconds-gt-MOST_RUNTIME.false)

pub overflow_mul-time-2 : goal.overflow_mul-time-2
overflow_mul-time-2 c =
    record { fits = omega (arith, frames_small (goal.at.overflow_mul-time-2 c).After-row-row) }

pub overflow_mul-row : goal.overflow_mul-row
overflow_mul-row c =
    record { fits = omega (arith, denominator-is (goal.at.overflow_mul-row c).After-row-row, (sound c.args.rate c.requires.rate).denominator_most) }

pub returns : goal.returns
unfolding runtime_frame
returns c =
    let time = time_in c.args.fields c.args.millionths in
    c.nearest_count.ensures
    ∙ ap₂ (λ (z : ℤ) (d : ℕ). held (nearest_z z (1_000_000 * d)))
    (to_z-of_z {w = w64} (record { sfits = c.with_sign-frames.type_inv })
    ∙ c.with_sign-frames.ensures
    ∙ fitted-in _ (signed c.args.minus (time * c.row-row.result.numerator)) (omega (arith, frames_small (goal.at.returns c).After-row-row))
    ∙ ap (λ (n : ℕ). signed c.args.minus (time * n)) (numerator-is (goal.at.returns c).After-row-row))
    (denominator-is (goal.at.returns c).After-row-row)
