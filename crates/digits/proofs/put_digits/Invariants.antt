-- What each turn of the loop keeps: two digits fewer are left.
-- Assumes nothing.
use Rattle.std.proofs.Common.{◌*◌, ◌-◌}
use Rattle.digits.proofs.Spelling.{Spelling}
use Rattle.digits.proofs.put_digits.Given as goal

abbrev pub invariant-loop-j : goal.invariant-loop-j
invariant-loop-j l = Spelling l.initial.part l.k l.n l.part (l.k - 2 * l.j) l.rest
