-- `time::premiere_ticks` meets its contract: what is admitted has its instant.
-- Assumes nothing.
use Rattle.std.specs.Prelude.{Ok, Err}
use mir.Syntax.{w64}
use mathlib.Core.Path.{sym, ◌∙◌, ap}
use mir.Facts.{to_z-of_z}
use Rattle.answers.specs.OrderLaws.{judged-clear, unless-clear}
use Rattle.timecodes.specs.Admitted.{admits}
use Rattle.timecodes.specs.AdmittedLaws.{admits-valid}
use Rattle.timecodes.specs.Instant.{instant}
use Rattle.timecodes.specs.InstantLaws.{instant_in-valid}
use Rattle.time.specs.Ticks.{ticks_of}
use Rattle.time.proofs.premiere_ticks.Goals as goal

pub returns : goal.returns
unfolding ticks_of
returns c =
    let clear = judged-clear (admits c.args.tc) (sym c.admit.ensures ∙ c.in_ok-admit.was) in
    ap Ok (to_z-of_z {w = w64} (record { sfits = c.instant_of.type_inv }) ∙ c.instant_of.ensures ∙ instant_in-valid c.args.tc (admits-valid c.args.tc clear))
    ∙ sym (unless-clear Err (admits c.args.tc) (Ok (instant c.args.tc)) clear)
