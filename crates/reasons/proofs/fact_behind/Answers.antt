-- `reasons::fact_behind` meets its contract: the number 0 has no fact.
-- Assumes nothing.
use mathlib.Core.Path.{sym, ap, ◌∙◌}
use Rattle.reading.specs.Answer.{number_of}
use Rattle.reading.specs.Taken.{shaped_in}
use Rattle.reasons.specs.Facts.{fact_by}
use Rattle.reasons.proofs.Facts.{no-fact}
use Rattle.reasons.proofs.fact_behind.Goals as goal

pub returns-in-Ok : goal.returns-in-Ok
returns-in-Ok c =
    sym (ap (λ r. fact_by (number_of r) c.args.rate c.args.stated (shaped_in c.args.taken)) c.in-Ok.is ∙ no-fact c.args.rate c.args.stated (shaped_in c.args.taken))
