-- `inputs::Waiting::each_line` meets its contract: each step takes a byte of the chunk at least, and what waits is what waits behind the bytes that are taken.
-- Assumes nothing.
use Rattle.std.proofs.lemmas.Result.{MatchResult-from_err}
use Rattle.streams.proofs.Beginnings.{beginning-none, beginning-turn, left-turn}
use Rattle.inputs.proofs.Waiting.each_line.Goals as goal

pub loop-next-init : goal.loop-next-init
loop-next-init g c = beginning-none c.args.chunk.now _ _

pub loop-next-preserved-in-Continue-1 : goal.loop-next-preserved-in-Continue-1
loop-next-preserved-in-Continue-1 g c =
    beginning-turn c.args.chunk.now _ _ c.loop-next.next _ _ c.loop-next.invariant _ _ _ c.gather-step.ensures.answer c.gather-step.ensures.buffer c.gone_on-self.ensures

pub loop-next-preserved : goal.loop-next-preserved
loop-next-preserved g c =
    beginning-turn c.args.chunk.now _ _ c.loop-next.next _ _ c.loop-next.invariant _ _ _ c.gather-step.ensures.answer c.gather-step.ensures.buffer c.gone_on-self.ensures

-- an answer that fails ends the loop behind a step
pub returns-in_err-take_line : goal.returns-in_err-take_line
returns-in_err-take_line g c =
    MatchResult-from_err _ _ _ c.from_residual.ensures.0
    (λ e. left-turn c.args.chunk.now _ _ c.loop-next.next _ _ c.loop-next.invariant c.loop-next-test.true _ _ c.gather-step.ensures.answer c.gather-step.ensures.buffer)
