-- `arithmetic::neg` meets its contract: what is admitted is counted, and what is refused is refused.
-- Assumes nothing.
use Rattle.std.specs.Prelude.{Ok, Err}
use Rattle.std.proofs.lemmas.Result.{err_from_is_err_and}
use mathlib.Core.Path.{◌≡◌, sym, ◌∙◌, ap}
use borrow.Author.Rules.{rules}
use mathlib.Core.List.{[]}
use native.Mathlib.Omega.{arith}
use Rattle.std.proofs.lemmas.Int.{ints}
use lib.IntN.{ℤ, pos, neg_ℤ, ◌-ℤ◌}
use mir.Facts.{to_z-of_z}
use Rattle.numbers.proofs.Machine.{flip}
use Rattle.numbers.specs.SignLaws.{abs_neg}
use mir.Syntax.{w64}
use mir.Val.{to_z, of_z}
use Rattle.answers.specs.Order.{judged}
use Rattle.answers.specs.OrderLaws.{judged-clear}
use Rattle.timecodes.specs.Timecode.{moved_to}
use Rattle.timecodes.specs.Admitted.{admits_length}
use Rattle.timecodes.specs.AdmittedLaws.{admits_length-valid, valid-count-le, operated, not-operated}
use Rattle.arithmetic.specs.Count.{neg_of}
use Rattle.arithmetic.proofs.neg.Goals as goal
use Rattle.arithmetic.proofs.neg.Goals.{After-admit_length, In_ok-admit_length}

passed : (c : In_ok-admit_length) → judged (admits_length c.args.tc) ≡ (Ok tt)
passed c =
    sym c.admit_length.ensures ∙ c.in_ok-admit_length.was

-- the count, as the machine reads it
count_is : (c : After-admit_length)
    → to_z w64 (of_z w64 c.args.tc.count) ≡ c.args.tc.count
count_is c =
    search rules

pub returns : goal.returns
unfolding neg_of
returns c =
    let count = count_is (goal.at.returns c).After-admit_length in
    let valid = admits_length-valid c.args.tc (judged-clear (admits_length c.args.tc) (passed (goal.at.returns c).In_ok-admit_length)) in
    let turned = ap (λ (z : ℤ). pos 0 -ℤ z) count ∙ flip c.args.tc.count in
    let fits = valid-count-le c.args.tc valid in
    let same = abs_neg c.args.tc.count in
    c.moved.ensures
    ∙ ap (λ (z : ℤ). moved_to c.args.tc c.args.tc.rate (Ok z))
    (ap (λ (z : ℤ). to_z w64 (of_z w64 z)) turned ∙ to_z-of_z {w = w64} (record { sfits = omega (arith, ints, fits, same) }))
    ∙ operated (admits_length c.args.tc) [] c.args.tc c.args.tc.rate (neg_ℤ c.args.tc.count) (passed (goal.at.returns c).In_ok-admit_length)

pub returns-in_err-admit_length : goal.returns-in_err-admit_length
unfolding neg_of
returns-in_err-admit_length c =
    let p = err_from_is_err_and c.from_residual.result c.from_residual.ensures.1 in
    p.1 ∙ ap Err p.2 ∙ sym (not-operated (admits_length c.args.tc) [] _ _ (sym c.admit_length.ensures ∙ c.in_err-admit_length.was))
