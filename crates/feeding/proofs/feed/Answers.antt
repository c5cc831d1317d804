-- `feeding::feed` meets its contract: what is wanted from here is what is wanted from the start.
-- Assumes nothing.
use mathlib.Core.Path.{sym, ap, ◌∙◌}
use native.Mathlib.Omega.{arith}
use Rattle.feeding.specs.Feeding.{machine, taken_to, fed_from, fed_answer}
use Rattle.feeding.proofs.Following.{run-turn, run-done, step-more, on-within, on_room, step-is, fed-as}
use Rattle.feeding.proofs.feed.Goals as goal

pub loop-buffer-smaller : goal.loop-buffer-smaller
loop-buffer-smaller g c =
    let s = g.P.Page.seen c.loop-buffer.sheet in
    let f = taken_to (machine c.loop-buffer.buffer c.loop-buffer.gathered s) c.loop-buffer.eaten in
    let l = on-within c.args.chunk.now f _ c.goes_on.ensures c.loop-buffer-test.true in
    let e = ap (λ z. z.eaten) (step-is c.args.chunk.now c.loop-buffer.buffer s _ c.loop-buffer.gathered _ c.loop-buffer.eaten _ _ c.gather-step.ensures.answer c.gather-step.ensures.buffer c.answer_ended.ensures c.gone_on-gathered.ensures) in
    omega (arith, l, e, step-more c.args.chunk.now f l)

pub loop-buffer-preserved : goal.loop-buffer-preserved
loop-buffer-preserved g c =
    let s = g.P.Page.seen c.loop-buffer.sheet in
    let f = taken_to (machine c.loop-buffer.buffer c.loop-buffer.gathered s) c.loop-buffer.eaten in
    let l = on-within c.args.chunk.now f _ c.goes_on.ensures c.loop-buffer-test.true in
    let r = on_room c.args.chunk.now f _ c.goes_on.ensures c.loop-buffer-test.true in
    rw (step-is c.args.chunk.now c.loop-buffer.buffer s _ c.loop-buffer.gathered _ c.loop-buffer.eaten _ _ c.gather-step.ensures.answer c.gather-step.ensures.buffer c.answer_ended.ensures c.gone_on-gathered.ensures)
    (run-turn c.args.chunk.now f l _ c.loop-buffer.invariant r)

pub returns : goal.returns
returns g c =
    let f = taken_to (machine c.loop-buffer.buffer c.loop-buffer.gathered (g.P.Page.seen c.loop-buffer.sheet)) c.loop-buffer.eaten in
    let e = run-done c.args.chunk.now f _ c.goes_on.ensures _ c.loop-buffer.invariant c.loop-buffer-test.false in
    let first = g.P.Page.seen c.args.sheet.now in
    let begun = ap (λ z. fed_from 0 (machine c.args.buffer.now c.args.g z) c.args.chunk.now) c.clear.ensures in
    let from = sym (fed-as first.lender c.args.buffer.now first.bytes c.args.g c.args.chunk.now) ∙ sym begun ∙ e in
    record { answer = sym (ap fed_answer from); buffer = sym (ap (λ z. z.machine.buffer) from); sheet = sym (ap (λ z. z.machine.sheet) from) }
