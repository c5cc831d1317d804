-- `streams::Gathered::take` meets its contract: each return is the definition's case that the test of room chose.
-- Assumes nothing.
use mathlib.Core.Path.{refl}
use Rattle.streams.proofs.Gathering.{taken-room, taken-over, buffer-over}
use Rattle.streams.proofs.gathered.Gathered.take.Goals as goal

pub returns-then-self-buffer : goal.returns-then-self-buffer
returns-then-self-buffer c =
    record { answer = taken-room c.args.buffer.now c.args.self c.args.b c.if-self-buffer.true; buffer = refl }

pub returns : goal.returns
returns c =
    record { answer = taken-over c.args.buffer.now c.args.self c.args.b c.if-self-buffer.false; buffer = buffer-over c.args.buffer.now c.args.self c.args.b c.if-self-buffer.false }
