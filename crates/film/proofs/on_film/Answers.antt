-- `film::on_film` meets its contract: a footage has no fault just where it can be on the film.
-- Assumes nothing.
use mathlib.Core.Path.{ap, ◌∙◌}
use Rattle.faults.specs.Faults.{is_none}
use Rattle.faults.specs.FaultLaws.{none_told}
use Rattle.film.proofs.FaultLaws.{film_fault-none}
use Rattle.film.proofs.on_film.Goals as goal

pub returns : goal.returns
returns c =
    none_told c.film_fault.result c.is_none.ensures
    ∙ ap is_none c.film_fault.ensures
    ∙ film_fault-none c.args.format c.args.feet c.args.frames c.args.marked c.args.marker
