-- `asking::table::kind_of` meets its contract: a row has its letters behind sixteen bytes.
-- Assumes nothing.
use mathlib.Core.Path.{◌∙◌}
use Rattle.asking.proofs.Filled.{letter_at}
use Rattle.asking.proofs.table.kind_of.Goals as goal

pub returns : goal.returns
returns c =
    c.byte_at.ensures ∙ letter_at _ _ c.requires.row c.requires.letter
