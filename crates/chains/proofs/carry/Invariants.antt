-- What each turn of the loop keeps.
-- Assumes nothing.
use mathlib.Core.Path.{◌≡◌}
use lib.ListN.{drop}
use Rattle.timecodes.specs.declared.kinds.Kind.TheVariants.{Length}
use Rattle.timecodes.specs.Admitted.{Valid}
use Rattle.chains.specs.Chain.{carried}
use Rattle.chains.proofs.carry.Given as goal

abbrev pub invariant-loop-next : goal.invariant-loop-next
invariant-loop-next l = record {
  valid : Valid l.at;
  length : l.at.kind ≡ Length;
  same_end : carried l.at (drop l.next-index l.list) ≡ carried l.initial.at l.list;
}
