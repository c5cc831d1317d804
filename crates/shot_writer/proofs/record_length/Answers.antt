-- `shot_writer::record_length` meets its contract: by the kind of record.
-- Assumes nothing.
use mathlib.Core.Path.{sym, ap, ◌∙◌}
use lib.ListN.{length}
use Rattle.shot_writer.specs.ListText.{record_bytes}
use Rattle.shot_writer.proofs.Lengths.{rate-long, shot-long, reel-long}
use Rattle.shot_writer.proofs.record_length.Goals as goal

pub returns-in-Rate : goal.returns-in-Rate
returns-in-Rate c =
    sym (ap (λ r. length (record_bytes r)) c.in-Rate.is ∙ rate-long _)

pub returns-in-Shot : goal.returns-in-Shot
returns-in-Shot c =
    sym (ap (λ r. length (record_bytes r)) c.in-Shot.is ∙ shot-long _ _)

pub returns-in-Reel : goal.returns-in-Reel
returns-in-Reel c =
    sym (ap (λ r. length (record_bytes r)) c.in-Reel.is ∙ reel-long _)
