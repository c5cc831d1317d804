-- `film::footage_of` meets its contract: it is the definition, at the two numbers that were called for.
-- Assumes nothing.
use mathlib.Core.Path.{ap₂}
use Rattle.film.specs.Footage.{footage_of, footage_by}
use Rattle.film.proofs.footage_of.Goals as goal

pub returns : goal.returns
unfolding footage_of
returns c =
    ap₂ (footage_by c.args.f) c.perfs_per_frame-per_frame.ensures c.perfs_per_foot-per_foot.ensures
