-- `scanner::shifted` meets its contract: the array has four places, and is written out element by element.
-- Assumes nothing.
use native.Mathlib.Omega.{arith}
use Rattle.scanner.proofs.Justified.{shift-four}
use Rattle.scanner.proofs.fields.shifted.Goals as goal

pub returns : goal.returns
returns c =
    shift-four c.args.values c.args.value (omega arith)
