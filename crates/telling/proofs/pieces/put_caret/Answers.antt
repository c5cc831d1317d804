-- `telling::pieces::put_caret` meets its contract: what is wanted is what the sheet has, with the spaces that are left.
-- Assumes nothing.
use Prim.Native.Nat.{◌-◌}
use mathlib.Core.Path.{◌≡◌, ◌∙◌}
use native.Mathlib.Omega.{arith}
use Rattle.telling.proofs.Lines.{spacing-turn, spacing-done}
use Rattle.telling.proofs.pieces.put_caret.Goals as goal

pub loop-init : goal.loop-init
loop-init g c = let e : c.args.place - 0 ≡ c.args.place = omega arith in rw e

pub loop-preserved : goal.loop-preserved
loop-preserved g c =
    spacing-turn c.args.place (g.P.Page.seen c.args.sheet.now) (g.P.Page.seen c.loop.sheet) c.loop.counter c.loop.invariant _ c.loop-test.true c.put_byte.ensures

pub returns : goal.returns
returns g c = c.put_text.ensures ∙ spacing-done c.args.place (g.P.Page.seen c.args.sheet.now) (g.P.Page.seen c.loop.sheet) c.loop.counter c.loop.invariant c.loop-test.false
