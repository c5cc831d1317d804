-- `arithmetic::abs` meets its contract: what is admitted is counted, and what is refused is refused.
-- Assumes nothing.
use Rattle.std.specs.Prelude.{Ok, Err}
use Rattle.std.proofs.lemmas.Result.{err_from_is_err_and}
use mathlib.Core.Path.{◌≡◌, sym, ◌∙◌, ap}
use borrow.Author.Rules.{rules}
use mathlib.Core.List.{[]}
use mir.Facts.{to_z-of_z}
use lib.IntN.{ℤ, pos, nat_abs}
use mir.Syntax.{w64}
use mir.Val.{to_z, of_z}
use Rattle.answers.specs.Order.{judged}
use Rattle.timecodes.specs.Timecode.{moved_to}
use Rattle.timecodes.specs.Admitted.{admits_length}
use Rattle.timecodes.specs.AdmittedLaws.{operated, not-operated}
use Rattle.arithmetic.specs.Count.{abs_of}
use Rattle.arithmetic.proofs.abs.Goals as goal
use Rattle.arithmetic.proofs.abs.Goals.{After-admit_length, In_ok-admit_length}

passed : (c : In_ok-admit_length) → judged (admits_length c.args.tc) ≡ (Ok tt)
passed c =
    sym c.admit_length.ensures ∙ c.in_ok-admit_length.was

-- the count, as the machine reads it
count_is : (c : After-admit_length)
    → to_z w64 (of_z w64 c.args.tc.count) ≡ c.args.tc.count
count_is c =
    search rules

pub returns : goal.returns
unfolding abs_of
returns c =
    c.moved.ensures
    ∙ ap (λ (z : ℤ). moved_to c.args.tc c.args.tc.rate (Ok z))
    (to_z-of_z {w = w64} (record { sfits = c.abs.type_inv }) ∙ c.abs.ensures.value ∙ ap (λ (z : ℤ). pos (nat_abs z)) (count_is (goal.at.returns c).After-admit_length))
    ∙ operated (admits_length c.args.tc) [] c.args.tc c.args.tc.rate (pos (nat_abs c.args.tc.count)) (passed (goal.at.returns c).In_ok-admit_length)

pub returns-in_err-admit_length : goal.returns-in_err-admit_length
unfolding abs_of
returns-in_err-admit_length c =
    let p = err_from_is_err_and c.from_residual.result c.from_residual.ensures.1 in
    p.1 ∙ ap Err p.2 ∙ sym (not-operated (admits_length c.args.tc) [] _ _ (sym c.admit_length.ensures ∙ c.in_err-admit_length.was))
