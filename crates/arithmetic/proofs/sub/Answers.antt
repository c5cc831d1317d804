-- `arithmetic::sub` meets its contract: what is admitted has instants, and what is refused is refused.
-- Assumes nothing.
use Rattle.std.specs.Prelude.{Err}
use Rattle.std.proofs.lemmas.Result.{err_from_is_err_and}
use mathlib.Core.Path.{◌≡◌, sym, ◌∙◌, ap, ap₂}
use mathlib.Core.Bool.{true}
use native.Mathlib.Omega.{arith}
use lib.IntN.{ℤ, ◌-ℤ◌}
use mir.Syntax.{w64}
use mir.Val.{to_z, of_z}
use mir.Facts.{to_z-of_z}
use Rattle.std.specs.Prelude.{FitsSigned}
use Rattle.numbers.specs.DistanceLaws.{abs-minus}
use Rattle.numbers.specs.Nearest.{nearest_z}
use Rattle.answers.specs.Refusals.{held}
use Rattle.rates.specs.Rates.{frame_ticks}
use Rattle.timecodes.specs.declared.kinds.Joining.TheVariants.{Difference}
use Rattle.timecodes.specs.Timecode.{placed}
use Rattle.timecodes.specs.Made.{settled}
use Rattle.timecodes.specs.Instant.{instant}
use Rattle.timecodes.specs.InstantLaws.{instant-abs-le, instant_in-valid}
use Rattle.arithmetic.proofs.Admitting.{fits-in, left, right, joined-made, joined-turned-down}
use Rattle.arithmetic.proofs.sub.Goals as goal
use Rattle.arithmetic.proofs.sub.Goals.{After-instant_of-2}

pub returns-in_err-kind : goal.returns-in_err-kind
returns-in_err-kind c =
    let p = err_from_is_err_and c.from_residual.result c.from_residual.ensures.1 in
    p.1 ∙ ap Err p.2 ∙ joined-turned-down true c.args.a c.args.b _ (sym c.admit_both.ensures ∙ c.in_err-kind.was)

-- the two instants, as the machine reads them
x-is : (c : After-instant_of-2) → to_z w64 (of_z w64 c.instant_of.result) ≡ instant c.args.a
x-is c =
    to_z-of_z {w = w64} (record { sfits = c.instant_of.type_inv })
    ∙ c.instant_of.ensures
    ∙ instant_in-valid _ (left Difference c.args.a c.args.b c.in_ok-kind.kind (sym c.admit_both.ensures ∙ c.in_ok-kind.was))

y-is : (c : After-instant_of-2) → to_z w64 (of_z w64 c.instant_of-2.result) ≡ instant c.args.b
y-is c =
    to_z-of_z {w = w64} (record { sfits = c.instant_of-2.type_inv })
    ∙ c.instant_of-2.ensures
    ∙ instant_in-valid _ (right Difference c.args.a c.args.b c.in_ok-kind.kind (sym c.admit_both.ensures ∙ c.in_ok-kind.was))

fits : (c : After-instant_of-2) → FitsSigned w64 (instant c.args.a -ℤ instant c.args.b)
fits c =
    let admitted = sym c.admit_both.ensures ∙ c.in_ok-kind.was in
    let x = instant-abs-le c.args.a (left Difference c.args.a c.args.b c.in_ok-kind.kind admitted) in
    let y = instant-abs-le c.args.b (right Difference c.args.a c.args.b c.in_ok-kind.kind admitted) in
    fits-in _ (omega (arith, x, y, abs-minus (instant c.args.a) (instant c.args.b)))

pub overflow_sub-ticks : goal.overflow_sub-ticks
overflow_sub-ticks c =
    let there = (goal.at.overflow_sub-ticks c).After-instant_of-2 in rw (x-is there, y-is there) (fits there)

pub returns : goal.returns
returns c =
    let there = (goal.at.returns c).After-instant_of-2 in
    let exact = ap₂ (λ (x y : ℤ). to_z w64 (of_z w64 (x -ℤ y))) (x-is there) (y-is there) ∙ to_z-of_z {w = w64} (fits there) in
    c.nearest.ensures
    ∙ ap (λ (z : ℤ). settled c.in_ok-kind.kind (placed c.args.a.rate (held (nearest_z z (frame_ticks c.args.a.rate))))) exact
    ∙ joined-made true c.args.a c.args.b c.in_ok-kind.kind (sym c.admit_both.ensures ∙ c.in_ok-kind.was)
