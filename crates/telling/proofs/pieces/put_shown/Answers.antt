-- `telling::pieces::put_shown` meets its contract: what is wanted is what the sheet has, with the bytes that are left.
-- Assumes nothing.
use mathlib.Core.Path.{◌∙◌}
use Rattle.telling.proofs.Lines.{showing-turn, showing-done}
use Rattle.telling.proofs.pieces.put_shown.Goals as goal

pub loop-b-preserved : goal.loop-b-preserved
loop-b-preserved g c =
    showing-turn c.args.text.now (g.P.Page.seen c.args.sheet.now) (g.P.Page.seen c.loop-b.sheet) c.loop-b.b-index c.loop-b.invariant _ _ c.loop-b-test.true c.shown.ensures c.put_byte.ensures

pub returns : goal.returns
returns g c =
    c.put_byte-2.ensures ∙ showing-done c.args.text.now (g.P.Page.seen c.args.sheet.now) (g.P.Page.seen c.loop-b.sheet) c.loop-b.b-index c.loop-b.invariant c.loop-b-test.false
