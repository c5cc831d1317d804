-- A directory that is tested once: the contracts' equations, one behind the other.
-- Assumes nothing.
use mathlib.Core.Path.{ap, ◌∙◌}
use Rattle.router.specs.Tested.{routed_in}
use Rattle.router.proofs.Statements.{tested_once}
use Rattle.promises.specs.RouteMany.{AskedMany}

pub asked_many : AskedMany
asked_many κs a x p λs b y q e =
    q ∙ ap (λ d. routed_in d b.1.0 b.1.1.0.now) (e ∙ p) ∙ tested_once a.0 a.1.0.now a.1.1.0.now b.1.0 b.1.1.0.now
