-- `minutes::minute_start` meets its contract: a minute of the table has its entry, any other is refused.
-- Assumes nothing.
use Rattle.std.specs.Prelude.{Ok}
use mathlib.Core.Path.{◌≡◌, ap, ◌∙◌}
use borrow.Author.Tests.{le-leb}
use borrow.Author.Rules.{rules}
use lib.IntN.{pos}
use mir.Facts.{to_z_pos}
use mir.Syntax.{w64}
use mir.Val.{to_z}
use Rattle.numbers.proofs.Tests.{tests}
use Rattle.minutes.specs.Minutes.{minute_at}
use Rattle.minutes.proofs.minute_start.Goals as goal

pub returns-then-minute-gt1439 : goal.returns-then-minute-gt1439
unfolding minute_at
returns-then-minute-gt1439 c =
    search tests

pub returns : goal.returns
unfolding minute_at
returns c =
    let read : to_z w64 c.entry-start.result ≡ pos c.entry-start.result = to_z_pos w64 (search rules) in
    let start = read ∙ ap pos c.entry-start.ensures in
    rw (le-leb c.args.minute 1439 c.if-minute-gt1439.false) (ap Ok start)
