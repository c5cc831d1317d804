-- `labels::label_frames` meets its contract: the fields that are counted passed the test.
-- Assumes nothing.
use mathlib.Core.Path.{sym, ◌∙◌}
use Rattle.labels.specs.BoundLaws.{is_short-told}
use Rattle.labels.proofs.label_frames.Goals as goal

pub count-requires : goal.count-requires
count-requires c =
    is_short-told c.args.fields (sym c.is_short.ensures ∙ c.if-not-is_short.false)
