-- `numbers::exact::lowest` meets its contract: both terms over their greatest common divisor.
-- Assumes nothing.
use Rattle.numbers.specs.LowestLaws.{gcd-pos, over-gcd}
use Rattle.numbers.proofs.exact.lowest.Goals as goal

pub nonzero_div-result : goal.nonzero_div-result
nonzero_div-result c =
    gcd-pos _ _ _ c.requires c.gcd-g.ensures

pub nonzero_div-result-2 : goal.nonzero_div-result-2
nonzero_div-result-2 c =
    gcd-pos _ _ _ c.requires c.gcd-g.ensures

pub returns : goal.returns
returns c =
    over-gcd _ _ _ c.requires c.gcd-g.ensures
