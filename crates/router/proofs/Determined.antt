-- Each public function's contract allows one outcome: two that meet its equations are equal.
-- Assumes nothing.
use mathlib.Core.Path.{sym, ap, ◌∙◌}
use Rattle.outcomes.specs.Outcome.{Determined}
use Rattle.router.specs.contracts.rules.check_directory as check_directory
use Rattle.router.proofs.rules.check_directory.Reads as check-directory-reads
use Rattle.router.specs.contracts.query.query_range as query_range
use Rattle.router.proofs.query.query_range.Reads as query-range-reads
use Rattle.router.specs.contracts.route as route
use Rattle.router.proofs.route.Reads as route-reads
use Rattle.router.specs.contracts.many.tested as tested
use Rattle.router.proofs.many.tested.Reads as tested_reads
use Rattle.router.specs.contracts.many.verdict as verdict
use Rattle.router.proofs.many.verdict.Reads as verdict-reads
use Rattle.router.specs.contracts.many.route_tested as route_tested
use Rattle.router.proofs.many.route_tested.Reads as route-tested-reads

pub check-directory-determined : Determined check_directory.ended check-directory-reads.Asked check-directory-reads.Learnt
check-directory-determined κs a asked x y p q = ap (λ z. (z, x.1)) (p ∙ sym q)

pub query-range-determined : Determined query_range.ended query-range-reads.Asked query-range-reads.Learnt
query-range-determined κs a asked x y p q = ap (λ z. (z, x.1)) (p ∙ sym q)

pub route-determined : Determined route.ended route-reads.Asked route-reads.Learnt
route-determined κs a asked x y p q = ap (λ z. (z, x.1)) (p ∙ sym q)

pub tested-determined : Determined tested.ended tested_reads.Asked tested_reads.Learnt
tested-determined κs a asked x y p q = ap (λ z. (z, x.1)) (p ∙ sym q)

pub verdict-determined : Determined verdict.ended verdict-reads.Asked verdict-reads.Learnt
verdict-determined κs a asked x y p q = ap (λ z. (z, x.1)) (p ∙ sym q)

pub route-tested-determined : Determined route_tested.ended route-tested-reads.Asked route-tested-reads.Learnt
route-tested-determined κs a asked x y p q = ap (λ z. (z, x.1)) (p ∙ sym q)
