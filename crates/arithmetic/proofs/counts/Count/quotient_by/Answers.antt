-- `arithmetic::counts::Count::quotient_by` meets its contract: by an admitted divisor the dividend fits, and what is rounded down is held to the bounds of a count.
-- Assumes nothing.
use Rattle.std.specs.Prelude.{Ok, Err}
use Rattle.std.proofs.lemmas.Result.{err_from_is_err_and}
use mathlib.Core.Path.{◌≡◌, sym, ◌∙◌, ap, ap₂}
use lib.IntN.{ℤ, pos, nat_abs, ◌*ℤ◌}
use mir.Syntax.{w64}
use mir.Val.{to_z, of_z}
use mir.Facts.{to_z-of_z}
use Rattle.numbers.specs.Sign.{is_neg, signed}
use Rattle.numbers.specs.SignLaws.{signed_back}
use Rattle.numbers.specs.Floor.{floor_z}
use Rattle.numbers.specs.Total.{divided, divided-in}
use Rattle.answers.specs.Order.{judged}
use Rattle.answers.specs.Refusals.{held}
use Rattle.time.proofs.Steps.{below_zero-is}
use Rattle.arithmetic.specs.Divisor.{divisor_when}
use Rattle.arithmetic.specs.Flooring.{floored_of, floored_counted}
use Rattle.arithmetic.proofs.Dividing.{divisor-within, divisor-nonzero, dividend-lt, held-divided, divided-refused}
use Rattle.arithmetic.proofs.counts.Count.quotient_by.Goals as goal
use Rattle.arithmetic.proofs.counts.Count.quotient_by.Goals.{After-divisor, After-floor-z, After-scaled, In_ok-divisor}

-- what the test told is of p itself
told : (c : After-divisor) → c.divisor.result ≡ judged (divisor_when c.args.p c.args.q)
told c =
    c.divisor.ensures ∙ ap (λ (z : ℤ). judged (divisor_when z c.args.q)) (to_z-of_z c.ranges.p)

passed : (c : In_ok-divisor) → judged (divisor_when c.args.p c.args.q) ≡ (Ok tt)
passed c =
    sym ((c.divisor.ensures ∙ ap (λ (z : ℤ). judged (divisor_when z c.args.q)) (to_z-of_z c.ranges.p))) ∙ c.in_ok-divisor.was

pub scaled-requires : goal.scaled-requires
scaled-requires c =
    (divisor-within c.args.p c.args.q (passed (goal.at.scaled-requires c).In_ok-divisor)).bottom

-- the dividend, as the machine reads it
dividend-is : (c : After-scaled) → to_z w64 (of_z w64 c.scaled.result) ≡ c.args.self.n *ℤ pos c.args.q
dividend-is c =
    to_z-of_z {w = w64} (record { sfits = c.scaled.type_inv }) ∙ c.scaled.ensures

-- the quotient, as the machine reads it
floor_is : (c : After-floor-z) → to_z w64 (of_z w64 c.floor-z.result) ≡ floored_of c.args.self.n c.args.p c.args.q
floor_is c =
    to_z-of_z {w = w64} (record { sfits = c.floor-z.type_inv })
    ∙ c.floor-z.ensures
    ∙ ap₂ (λ (x y : ℤ). divided x y (floor_z x y)) ((to_z-of_z {w = w64} (record { sfits = c.scaled.type_inv }) ∙ c.scaled.ensures)) (to_z-of_z c.ranges.p)
    ∙ divided-in _ c.args.p (floored_of c.args.self.n c.args.p c.args.q) (dividend-lt c.args.p c.args.q ((sym ((c.divisor.ensures ∙ ap (λ (z : ℤ). judged (divisor_when z c.args.q)) (to_z-of_z c.ranges.p))) ∙ c.in_ok-divisor.was)) c.args.self.n c.args.self.within) (divisor-nonzero c.args.p c.args.q ((sym ((c.divisor.ensures ∙ ap (λ (z : ℤ). judged (divisor_when z c.args.q)) (to_z-of_z c.ranges.p))) ∙ c.in_ok-divisor.was)))

pub returns : goal.returns
unfolding floored_counted
returns c =
    let z = floored_of c.args.self.n c.args.p c.args.q in
    c.held.ensures
    ∙ ap₂ (λ b k. held (signed b k)) (below_zero-is _ ∙ ap is_neg (floor_is (goal.at.returns c).After-floor-z)) (c.unsigned_abs.ensures.value ∙ ap nat_abs (floor_is (goal.at.returns c).After-floor-z))
    ∙ ap held (signed_back z)
    ∙ held-divided c.args.p c.args.q (passed (goal.at.returns c).In_ok-divisor) z

pub returns-in_err-divisor : goal.returns-in_err-divisor
unfolding floored_counted
returns-in_err-divisor c =
    let p = err_from_is_err_and c.from_residual.result c.from_residual.ensures.1 in
    p.1 ∙ ap Err p.2 ∙ divided-refused c.args.p c.args.q _ (sym (told (goal.at.returns-in_err-divisor c).After-divisor) ∙ c.in_err-divisor.was) (floored_of c.args.self.n c.args.p c.args.q)
