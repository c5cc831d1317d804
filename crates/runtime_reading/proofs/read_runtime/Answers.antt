-- `runtime_reading::read_runtime` meets its contract: the length that is read, made of its kind.
-- Assumes nothing.
use mathlib.Core.Path.{◌∙◌, ap}
use Rattle.timecodes.specs.Made.{settled}
use Rattle.runtime_reading.proofs.read_runtime.Goals as goal

pub returns : goal.returns
returns c =
    c.settled.ensures ∙ ap (settled c.args.kind) c.read_length.ensures
