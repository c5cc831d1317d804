-- `streams::Sheet::put` meets its contract: with room the text stands behind what is used, and without nothing was done.
-- Assumes nothing.
use mathlib.Core.Path.{sym, ◌∙◌}
use native.Mathlib.Omega.{arith}
use borrow.Author.Tests.{leb-true, leb-false}
use Rattle.streams.specs.Sheet.{sheet}
use Rattle.streams.proofs.Putting.{put-lent, put-out}
use Rattle.streams.proofs.sheets.Sheet.put.Goals as goal

pub returns-then-room : goal.returns-then-room
returns-then-room g c =
    let room = leb-true _ _ (sym c.room.ensures ∙ c.if-room.true) in
    rw (← c.self.view_is)
    (put-lent (sheet c.self.inside.bytes c.self.inside.used) (g.T.Writable.text c.args.text.now) _ _ c.length-need.ensures (omega (arith, room)) c.put.ensures)

pub returns-else-room : goal.returns-else-room
returns-else-room g c =
    let over = leb-false _ _ (sym c.room.ensures ∙ c.if-room.false) in
    put-out c.args.self.now (g.T.Writable.text c.args.text.now) (rw (← c.self.view_is) (omega (arith, over)))
