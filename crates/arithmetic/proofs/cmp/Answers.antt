-- `arithmetic::cmp` meets its contract: what is admitted has instants, and what is refused is refused.
-- Assumes nothing.
use Rattle.std.specs.Prelude.{Ok, Err}
use Rattle.std.proofs.lemmas.Result.{err_from_is_err_and}
use mir.Syntax.{w64}
use mathlib.Core.Path.{sym, ◌∙◌, ap, ap₂}
use mir.Facts.{to_z-of_z}
use Rattle.answers.specs.Order.{Clear}
use Rattle.answers.specs.OrderLaws.{judged-refused, unless-clear}
use Rattle.timecodes.specs.declared.kinds.Joining.TheVariants.{Comparison}
use Rattle.timecodes.specs.Admitted.{admits_both}
use Rattle.timecodes.specs.AdmittedLaws.{admits_both-left, admits_both-right}
use Rattle.timecodes.specs.KindLaws.{admitted-told, admitted-refused}
use Rattle.timecodes.specs.Instant.{instant}
use Rattle.timecodes.specs.InstantLaws.{instant_in-valid}
use Rattle.arithmetic.specs.Compare.{order_of, compare_of}
use Rattle.arithmetic.proofs.cmp.Goals as goal
use Rattle.arithmetic.proofs.cmp.Goals.{In_ok-admit_both}

clear : (c : In_ok-admit_both) → Clear (admits_both Comparison c.args.a c.args.b)
clear c =
    (admitted-told Comparison c.args.a c.args.b c.in_ok-admit_both.field-0 (sym c.admit_both.ensures ∙ c.in_ok-admit_both.was)).0

pub returns : goal.returns
unfolding compare_of
returns c =
    let h = clear (goal.at.returns c).In_ok-admit_both in
    ap Ok
    (to_z-of_z {w = w64} (record { sfits = c.order.type_inv })
    ∙ c.order.ensures
    ∙ ap₂ order_of
    (to_z-of_z {w = w64} (record { sfits = c.instant_of.type_inv }) ∙ c.instant_of.ensures ∙ instant_in-valid c.args.a (admits_both-left Comparison c.args.a c.args.b h))
    (to_z-of_z {w = w64} (record { sfits = c.instant_of-2.type_inv }) ∙ c.instant_of-2.ensures ∙ instant_in-valid c.args.b (admits_both-right Comparison c.args.a c.args.b h)))
    ∙ sym (unless-clear Err (admits_both Comparison c.args.a c.args.b) (Ok (order_of (instant c.args.a) (instant c.args.b))) h)

pub returns-in_err-admit_both : goal.returns-in_err-admit_both
unfolding compare_of
returns-in_err-admit_both c =
    let p = err_from_is_err_and c.from_residual.result c.from_residual.ensures.1 in
    p.1 ∙ ap Err p.2 ∙ sym
    (judged-refused (admits_both Comparison c.args.a c.args.b) _
    (admitted-refused Comparison c.args.a c.args.b _ (sym c.admit_both.ensures ∙ c.in_err-admit_both.was))
    Err (Ok (order_of (instant c.args.a) (instant c.args.b))))
