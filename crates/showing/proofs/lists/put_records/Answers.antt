-- `showing::lists::put_records` meets its contract: what is wanted is what the sheet has, with the records that are left.
-- Assumes nothing.
use Rattle.std.specs.Prelude.{Ok}
use mathlib.Core.Path.{sym, ap, ◌∙◌}
use native.Mathlib.Omega.{arith}
use Rattle.shot_lists.specs.Entries.{on_disk}
use Rattle.shot_lists.specs.Walk.{going-nearer}
use Rattle.showing.proofs.ListPutting.{underway-begins, underway-goes, underway-never, underway-over, underway-done}
use Rattle.showing.proofs.lists.put_records.Goals as goal

pub loop-at-init : goal.loop-at-init
loop-at-init g c = underway-begins c.args.list.now (g.P.Page.seen c.args.sheet.now) c.requires

pub loop-at-preserved : goal.loop-at-preserved
loop-at-preserved g c =
    let r = c.in-Ok-Some.taken in
    underway-goes c.args.list.now (g.P.Page.seen c.args.sheet.now) (g.P.Page.seen c.loop-at.sheet) c.loop-at.at c.loop-at.held c.loop-at.invariant _ r.found r.held r.size
    (sym c.record_at.ensures ∙ c.in-Ok-Some.is ∙ ap Ok c.in-Ok-Some.field-0-is) c.put_words.ensures

pub overflow_add-at : goal.overflow_add-at
overflow_add-at g c =
    let r = c.in-Ok-Some.taken in
    let near =
    going-nearer on_disk c.args.list.now c.loop-at.at c.loop-at.held r.found r.held r.size
    (sym c.record_at.ensures ∙ c.in-Ok-Some.is ∙ ap Ok c.in-Ok-Some.field-0-is) in
    record { fits = omega arith }

pub loop-at-smaller : goal.loop-at-smaller
loop-at-smaller g c =
    let r = c.in-Ok-Some.taken in
    let near =
    going-nearer on_disk c.args.list.now c.loop-at.at c.loop-at.held r.found r.held r.size
    (sym c.record_at.ensures ∙ c.in-Ok-Some.is ∙ ap Ok c.in-Ok-Some.field-0-is) in
    omega arith

pub returns-in-Ok-None : goal.returns-in-Ok-None
returns-in-Ok-None g c =
    underway-over c.args.list.now (g.P.Page.seen c.args.sheet.now) (g.P.Page.seen c.loop-at.sheet) c.loop-at.at c.loop-at.held c.loop-at.invariant
    (sym c.record_at.ensures ∙ c.in-Ok-None.is ∙ ap Ok c.in-Ok-None.field-0-is)

pub returns-in-Err : goal.returns-in-Err
returns-in-Err g c =
    absurd (underway-never c.args.list.now (g.P.Page.seen c.args.sheet.now) (g.P.Page.seen c.loop-at.sheet) c.loop-at.at c.loop-at.held c.loop-at.invariant _ (sym c.record_at.ensures ∙ c.in-Err.is))

pub returns : goal.returns
returns g c = underway-done c.args.list.now (g.P.Page.seen c.args.sheet.now) (g.P.Page.seen c.loop-at.sheet) c.loop-at.at c.loop-at.held c.loop-at.invariant c.loop-at-test.false
