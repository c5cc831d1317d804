-- What each turn of the loop keeps: what is wanted of all shards is what is wanted of those that are left.
-- Assumes nothing.
use mathlib.Core.Path.{◌≡◌}
use lib.ListN.{length}
use Rattle.router.specs.Directory.{in_order}
use Rattle.router.proofs.rules.in_order.Given as goal

abbrev pub invariant-loop-first : goal.invariant-loop-first
invariant-loop-first l =
    let firsts = l.first-iterator.a.rest.now in
    let ends = l.first-iterator.b.rest.now in
    (length firsts ≡ length ends) × (in_order l.day 0 l.firsts l.ends ≡ in_order l.day l.low firsts ends)
