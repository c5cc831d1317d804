-- `put` of lent bytes meets the clause of `Page`: with room the text stands behind what is used, and without nothing was done.
-- Assumes nothing.
use mathlib.Core.Path.{sym, ◌∙◌}
use native.Mathlib.Omega.{arith}
use borrow.Author.Tests.{leb-true, leb-false}
use Rattle.streams.specs.Sheet.{sheet_of, loan}
use Rattle.streams.proofs.Putting.{put-lent, put-out}
use Rattle.streams.proofs.sheets.LentPage.put.Goals as goal

pub returns-then-room : goal.returns-then-room
returns-then-room g c =
    let s = c.args.self.now in
    let room = leb-true _ _ (sym c.room.ensures ∙ c.if-room.true) in
    put-lent (sheet_of (loan s.bytes.ref_ptr.0 s.bytes.ref_ptr.1 s.bytes.ghost_name) s.bytes.now s.used) (g.T.Writable.text c.args.text.now) _ _ c.length-need.ensures (omega (arith, room)) c.put.ensures

pub returns-else-room : goal.returns-else-room
returns-else-room g c =
    let s = c.args.self.now in
    let over = leb-false _ _ (sym c.room.ensures ∙ c.if-room.false) in
    put-out (sheet_of (loan s.bytes.ref_ptr.0 s.bytes.ref_ptr.1 s.bytes.ghost_name) s.bytes.now s.used) (g.T.Writable.text c.args.text.now) (omega (arith, over, c.length-need.ensures))
