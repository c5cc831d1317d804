-- `arithmetic::rebase` meets its contract: behind the test of the new rate, what is admitted keeps its count.
-- Assumes nothing.
use Rattle.std.specs.Prelude.{Ok, Err}
use Rattle.std.proofs.lemmas.Bool.{not_from_false, not_from_true}
use Rattle.std.proofs.lemmas.Result.{err_from_is_err_and}
use mathlib.Core.Path.{◌≡◌, sym, ◌∙◌, ap}
use mathlib.Core.Bool.{true}
use mathlib.Core.List.{[]}
use borrow.Author.Rules.{rules}
use lib.IntN.{ℤ}
use mir.Syntax.{w64}
use mir.Val.{to_z, of_z}
use Rattle.numbers.proofs.Tests.{fails, passes}
use Rattle.rates.specs.Rates.{is_rate}
use Rattle.timecodes.specs.Timecode.{moved_to}
use Rattle.timecodes.specs.Admitted.{admits_length}
use Rattle.timecodes.specs.AdmittedLaws.{operated, not-operated}
use Rattle.arithmetic.specs.Count.{rebase_of}
use Rattle.arithmetic.proofs.rebase.Goals as goal
use Rattle.arithmetic.proofs.rebase.Goals.{After-admit_length, Else-not-is_rate}

pub returns-then-not-is_rate : goal.returns-then-not-is_rate
unfolding rebase_of
returns-then-not-is_rate c =
    simp (fails c.is_rate.ensures (not_from_false _ c.if-not-is_rate.true), c.into.ensures)

rated : (c : Else-not-is_rate) → is_rate c.args.rate ≡ true
rated c =
    passes c.is_rate.ensures (not_from_true _ c.if-not-is_rate.false)

-- the count, as the machine reads it
count_is : (c : After-admit_length) → to_z w64 (of_z w64 c.args.tc.count) ≡ c.args.tc.count
count_is c =
    search rules

pub returns : goal.returns
unfolding rebase_of
returns c =
    simp (rated (goal.at.returns c).Else-not-is_rate)
    (c.moved.ensures
    ∙ ap (λ (z : ℤ). moved_to c.args.tc c.args.rate (Ok z)) (count_is (goal.at.returns c).After-admit_length)
    ∙ operated (admits_length c.args.tc) [] c.args.tc c.args.rate c.args.tc.count (sym c.admit_length.ensures ∙ c.in_ok-admit_length.was))

pub returns-in_err-admit_length : goal.returns-in_err-admit_length
unfolding rebase_of
returns-in_err-admit_length c =
    let p = err_from_is_err_and c.from_residual.result c.from_residual.ensures.1 in
    p.1 ∙ ap Err p.2 ∙ simp (rated (goal.at.returns-in_err-admit_length c).Else-not-is_rate) (sym (not-operated (admits_length c.args.tc) [] _ _ (sym c.admit_length.ensures ∙ c.in_err-admit_length.was)))
