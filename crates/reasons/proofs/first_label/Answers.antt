-- `reasons::first_label` meets its contract: it is the definition's.
-- Assumes nothing.
use mathlib.Core.Path.{refl}
use Rattle.reasons.specs.Facts.{first_label}
use Rattle.reasons.proofs.first_label.Goals as goal

pub returns : goal.returns
unfolding first_label
returns c =
    refl
