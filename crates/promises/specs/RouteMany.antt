-- A directory that is tested once: whatever the contracts allow of the test and of a query behind it is the answer of one that is tested each time.
-- Assumes nothing.
use Rattle.std.specs.Prelude.{◌≡◌}
use denote.Triple.Entry.{Args}
use Rattle.outcomes.specs.Outcome.{Times, Outcome, Allowed}
use Rattle.router.specs.Route.{route_of}
use Rattle.router.specs.contracts.tested as tested
use Rattle.router.proofs.tested.Reads as tested_reads
use Rattle.router.specs.contracts.route_tested as route_tested
use Rattle.router.proofs.route_tested.Reads as route-tested-reads

-- a and x: the directory that is tested, and what came of it; b and y: a query of that, and its answer
abbrev pub AskedMany : Type 0
AskedMany =
    (κs : Times tested.ended) (a : Args (tested.ended).signature κs) (x : Outcome tested.ended κs a) → Allowed tested.ended tested_reads.Learnt κs a x
    → (λs : Times route_tested.ended) (b : Args (route_tested.ended).signature λs) (y : Outcome route_tested.ended λs b)
    → Allowed route_tested.ended route-tested-reads.Learnt λs b y → b.0 ≡ x.0
    → y.0 ≡ route_of a.0 a.1.0.now a.1.1.0.now b.1.0 b.1.1.0.now
