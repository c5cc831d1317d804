-- `arithmetic::counts::Count::remainder_by` meets its contract: by an admitted divisor the dividend fits, and what is left is rounded once.
-- Assumes nothing.
use Rattle.std.specs.Prelude.{Ok, Err}
use Rattle.std.proofs.lemmas.Result.{err_from_is_err_and}
use mathlib.Core.Path.{◌≡◌, sym, ◌∙◌, ap, ap₂}
use lib.IntN.{ℤ, pos, ◌*ℤ◌}
use lib.Signed.{rem_z}
use mir.Syntax.{w64}
use mir.Val.{to_z, of_z}
use mir.Facts.{to_z-of_z}
use Rattle.numbers.specs.Nearest.{nearest_z}
use Rattle.numbers.specs.Total.{divided, divided-in}
use Rattle.answers.specs.Order.{judged}
use Rattle.answers.specs.Refusals.{held}
use Rattle.arithmetic.specs.Divisor.{divisor_when}
use Rattle.arithmetic.specs.Remainder.{left_of, left_counted}
use Rattle.arithmetic.proofs.Dividing.{divisor-within, divisor-nonzero, dividend-lt, held-divided, divided-refused}
use Rattle.arithmetic.proofs.counts.Count.remainder_by.Goals as goal
use Rattle.arithmetic.proofs.counts.Count.remainder_by.Goals.{After-divisor, After-scaled, In_ok-divisor}

-- what the test told is of p itself
told : (c : After-divisor) → c.divisor.result ≡ judged (divisor_when c.args.p c.args.q)
told c =
    c.divisor.ensures ∙ ap (λ (z : ℤ). judged (divisor_when z c.args.q)) (to_z-of_z c.ranges.p)

passed : (c : In_ok-divisor) → judged (divisor_when c.args.p c.args.q) ≡ (Ok tt)
passed c =
    sym ((c.divisor.ensures ∙ ap (λ (z : ℤ). judged (divisor_when z c.args.q)) (to_z-of_z c.ranges.p))) ∙ c.in_ok-divisor.was

pub scaled-requires : goal.scaled-requires
scaled-requires c =
    (divisor-within c.args.p c.args.q (passed (goal.at.scaled-requires c).In_ok-divisor)).bottom

-- the dividend, as the machine reads it
dividend-is : (c : After-scaled) → to_z w64 (of_z w64 c.scaled.result) ≡ c.args.self.n *ℤ pos c.args.q
dividend-is c =
    to_z-of_z {w = w64} (record { sfits = c.scaled.type_inv }) ∙ c.scaled.ensures

pub returns : goal.returns
unfolding left_counted
returns c =
    c.nearest_count.ensures
    ∙ ap (λ (z : ℤ). held (nearest_z z c.args.q))
    (to_z-of_z {w = w64} (record { sfits = c.remainder.type_inv })
    ∙ c.remainder.ensures
    ∙ ap₂ (λ (x y : ℤ). divided x y (rem_z x y)) (dividend-is (goal.at.returns c).After-scaled) (to_z-of_z c.ranges.p)
    ∙ divided-in _ c.args.p (rem_z (c.args.self.n *ℤ pos c.args.q) c.args.p) (dividend-lt c.args.p c.args.q (passed (goal.at.returns c).In_ok-divisor) c.args.self.n c.args.self.within) (divisor-nonzero c.args.p c.args.q (passed (goal.at.returns c).In_ok-divisor)))
    ∙ held-divided c.args.p c.args.q (passed (goal.at.returns c).In_ok-divisor) (left_of c.args.self.n c.args.p c.args.q)

pub returns-in_err-divisor : goal.returns-in_err-divisor
unfolding left_counted
returns-in_err-divisor c =
    let p = err_from_is_err_and c.from_residual.result c.from_residual.ensures.1 in
    p.1 ∙ ap Err p.2 ∙ divided-refused c.args.p c.args.q _ (sym (told (goal.at.returns-in_err-divisor c).After-divisor) ∙ c.in_err-divisor.was) (left_of c.args.self.n c.args.p c.args.q)
