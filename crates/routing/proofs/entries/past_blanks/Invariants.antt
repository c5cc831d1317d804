-- What each turn of the loop keeps.
-- Assumes nothing.
use mathlib.Core.Path.{◌≡◌}
use lib.ListN.{drop}
use Rattle.routing.specs.Entries.{past_blanks}
use Rattle.routing.proofs.entries.past_blanks.Given as goal

abbrev pub invariant-loop-i : goal.invariant-loop-i
invariant-loop-i l = past_blanks (drop l.at l.line) ≡ past_blanks (drop l.i l.line)
