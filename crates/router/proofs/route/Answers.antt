-- `router::route` meets its contract: what its test passes keeps the rules, and there halving finds what is asked.
-- Assumes nothing.
use Rattle.std.specs.Prelude.{Err}
use Rattle.std.proofs.lemmas.Result.{err_from_is_err_and}
use mathlib.Core.Path.{sym, ap, ◌∙◌}
use mir.Facts.{to_z-of_z}
use Rattle.answers.specs.OrderLaws.{judged-refused, judged-clear, unless-clear, not_in}
use Rattle.rates.specs.Day.{day_frames}
use Rattle.router.specs.Directory.{directory_when}
use Rattle.router.specs.Query.{range_of}
use Rattle.router.specs.Route.{asked_in, route_of}
use Rattle.router.specs.Halving.{found_in}
use Rattle.router.specs.RuleLaws.{rules-told}
use Rattle.router.proofs.HalvedSpan.{found-asked}
use Rattle.router.proofs.route.Goals as goal

pub returns : goal.returns
unfolding route_of
returns c =
    let clear = judged-clear (directory_when c.args.rate c.args.firsts.now c.args.ends.now) (sym c.check_directory.ensures ∙ c.in_ok-check_directory.was) in
    let rules = rules-told (day_frames c.args.rate) c.args.firsts.now c.args.ends.now (not_in _ clear.1.0) in
    c.found.ensures
    ∙ ap (λ z. found_in c.args.firsts.now c.args.ends.now (range_of c.args.rate z c.args.text.now)) (to_z-of_z c.ranges.length)
    ∙ found-asked (day_frames c.args.rate) c.args.firsts.now c.args.ends.now rules (range_of c.args.rate c.args.length c.args.text.now)
    ∙ sym (unless-clear Err (directory_when c.args.rate c.args.firsts.now c.args.ends.now) (asked_in c.args.firsts.now c.args.ends.now (range_of c.args.rate c.args.length c.args.text.now)) clear)

pub returns-in_err-check_directory : goal.returns-in_err-check_directory
unfolding route_of
returns-in_err-check_directory c =
    let p = err_from_is_err_and c.from_residual.result c.from_residual.ensures.1 in
    p.1 ∙ ap Err p.2 ∙ sym (judged-refused (directory_when c.args.rate c.args.firsts.now c.args.ends.now) _ (sym c.check_directory.ensures ∙ c.in_err-check_directory.was) Err _)
