-- `written::write` meets its contract: with room the text is laid down from its place on, and without nothing was done.
-- Assumes nothing.
use Rattle.written.proofs.Laws.{meets-in, meets-out}
use Rattle.written.proofs.write.Goals as goal

pub returns-then-room : goal.returns-then-room
returns-then-room g c =
    meets-in c.args.line.now c.args.place (g.T.Writable.text c.args.text.now) _ _ c.length-need.ensures c.room.ensures _ c.if-room.true c.put.ensures

pub returns : goal.returns
returns g c =
    meets-out c.args.line.now c.args.place (g.T.Writable.text c.args.text.now) _ _ c.length-need.ensures c.room.ensures _ c.into.ensures c.if-room.false
