-- `chains::convert` meets its contract: listed rates first, then the timecode's own conditions, and what passes them is carried.
-- Assumes nothing.
use Rattle.std.specs.Prelude.{Err}
use Rattle.std.proofs.lemmas.Bool.{not_from_false, not_from_true}
use Rattle.std.proofs.lemmas.Result.{err_from_is_err_and}
use mathlib.Core.Path.{◌≡◌, sym, ap, ◌∙◌}
use mathlib.Core.Bool.{true}
use Rattle.laws.specs.Every.{every}
use Rattle.numbers.proofs.Tests.{fails, passes}
use Rattle.answers.specs.Order.{Clear}
use Rattle.answers.specs.OrderLaws.{judged-refused, judged-clear, unless-clear}
use Rattle.rates.specs.Rates.{is_rate}
use Rattle.timecodes.specs.Admitted.{admits_length}
use Rattle.timecodes.specs.AdmittedLaws.{admits_length-valid, admits_length-length}
use Rattle.chains.specs.Chain.{carried}
use Rattle.chains.specs.ChainLaws.{convert_of-out, convert_of-in}
use Rattle.chains.proofs.convert.Goals as goal
use Rattle.chains.proofs.convert.Goals.{Else-not-all_rates, In_ok-admit_length}

pub returns-then-not-all_rates : goal.returns-then-not-all_rates
returns-then-not-all_rates c =
    ap Err c.into.ensures ∙ sym (convert_of-out c.args.tc c.args.list.now (fails c.all_rates.ensures (not_from_false _ c.if-not-all_rates.true)))

listed : (c : Else-not-all_rates) → every is_rate c.args.list.now ≡ true
listed c =
    passes c.all_rates.ensures (not_from_true _ c.if-not-all_rates.false)

-- what is admitted is clear of the timecode's own conditions
clear : (c : In_ok-admit_length) → Clear (admits_length c.args.tc)
clear c =
    judged-clear (admits_length c.args.tc) (sym c.admit_length.ensures ∙ c.in_ok-admit_length.was)

pub carry-requires : goal.carry-requires
carry-requires c =
    record { valid = admits_length-valid _ (clear (goal.at.carry-requires c).In_ok-admit_length); length = admits_length-length _ (clear (goal.at.carry-requires c).In_ok-admit_length); rates = listed (goal.at.carry-requires c).Else-not-all_rates }

pub returns : goal.returns
returns c =
    c.carry.ensures
    ∙ sym (convert_of-in c.args.tc c.args.list.now (listed (goal.at.returns c).Else-not-all_rates) ∙ unless-clear Err (admits_length c.args.tc) (carried c.args.tc c.args.list.now) (clear (goal.at.returns c).In_ok-admit_length))

pub returns-in_err-admit_length : goal.returns-in_err-admit_length
returns-in_err-admit_length c =
    let told = sym c.admit_length.ensures ∙ c.in_err-admit_length.was in
    let p = err_from_is_err_and c.from_residual.result c.from_residual.ensures.1 in
    p.1 ∙ ap Err p.2 ∙ sym (convert_of-in c.args.tc c.args.list.now (listed (goal.at.returns-in_err-admit_length c).Else-not-all_rates) ∙ judged-refused (admits_length c.args.tc) _ told Err (carried c.args.tc c.args.list.now))
