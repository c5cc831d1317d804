-- `router::many::kept` meets its contract: the front is copied, and the zeros behind it stay.
-- Assumes nothing.
use native.Mathlib.Omega.{arith}
use Rattle.router.specs.TestedLaws.{copied-front}
use Rattle.router.proofs.many.kept.Goals as goal

pub returns : goal.returns
returns c =
    copied-front c.min-n.result c.args.xs.now _ c.copy_from_slice.ensures.after (omega (arith, c.min-n.ensures))
