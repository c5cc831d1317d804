-- `arithmetic::rem` meets its contract: what is admitted is counted, and what is refused is refused.
-- Assumes nothing.
use Rattle.std.specs.Prelude.{Ok, Err}
use Rattle.std.proofs.lemmas.Result.{err_from_is_err_and}
use mathlib.Core.Path.{◌≡◌, sym, ◌∙◌, ap, ap₂}
use borrow.Author.Rules.{rules}
use mathlib.Core.List.{[], ◌∷◌}
use lib.Signed.{rem_z}
use mir.Syntax.{w64}
use mir.Val.{to_z, of_z}
use mir.Facts.{to_z-of_z}
use Rattle.answers.specs.Order.{judged}
use Rattle.timecodes.specs.Timecode.{moved_to}
use Rattle.timecodes.specs.Admitted.{admits_length}
use Rattle.timecodes.specs.AdmittedLaws.{operated, not-operated}
use Rattle.arithmetic.specs.Truncating.{remainder_counted, rem_of}
use Rattle.arithmetic.specs.Divisor.{bad_divisor}
use Rattle.arithmetic.proofs.rem.Goals as goal
use Rattle.arithmetic.proofs.rem.Goals.{After-admit_length, In_ok-admit_length}

passed : (c : In_ok-admit_length) → judged (admits_length c.args.tc) ≡ (Ok tt)
passed c =
    sym c.admit_length.ensures ∙ c.in_ok-admit_length.was

-- the count, as the machine reads it
count_is : (c : After-admit_length)
    → to_z w64 (of_z w64 c.args.tc.count) ≡ c.args.tc.count
count_is c =
    search rules

pub returns : goal.returns
unfolding rem_of remainder_counted
returns c =
    c.moved.ensures
    ∙ ap (moved_to c.args.tc c.args.tc.rate) (c.remainder.ensures ∙ ap₂ remainder_counted (c.new.ensures ∙ count_is (goal.at.returns c).After-admit_length) (to_z-of_z c.ranges.n))
    ∙ operated (admits_length c.args.tc) (bad_divisor c.args.n ∷ []) c.args.tc c.args.tc.rate (rem_z c.args.tc.count c.args.n) (passed (goal.at.returns c).In_ok-admit_length)

pub returns-in_err-admit_length : goal.returns-in_err-admit_length
unfolding rem_of
returns-in_err-admit_length c =
    let p = err_from_is_err_and c.from_residual.result c.from_residual.ensures.1 in
    p.1 ∙ ap Err p.2 ∙ sym (not-operated (admits_length c.args.tc) (bad_divisor c.args.n ∷ []) _ _ (sym c.admit_length.ensures ∙ c.in_err-admit_length.was))
