-- `digits::put_digits` meets its contract: each turn sets the last two digits that are left, and what is left then makes the same line.
-- Assumes nothing.
use Rattle.std.proofs.Common.{arith, sym, ◌≡◌, ◌-◌, ◌*◌, ◌+◌}
use Rattle.lent.proofs.Laws.{laid_out}
use Rattle.digits.specs.Digits.{digits_of}
use Rattle.digits.proofs.Values.{digits-length}
use Rattle.digits.proofs.Spelling.{spelling-pair, spelling-first, spelling-done}
use Rattle.digits.proofs.put_digits.Goals as goal

pub returns-then-part-k : goal.returns-then-part-k
returns-then-part-k c =
    sym (laid_out _ (digits_of c.args.k c.args.n) (omega (arith, digits-length c.args.k c.args.n)))

pub loop-j-preserved : goal.loop-j-preserved
loop-j-preserved c =
    let e : c.args.k - 2 * (c.loop-j.j + 1) ≡ c.args.k - 2 * c.loop-j.j - 2 = omega arith in
    rw e (spelling-pair _ _ _ _ _ _ _ _ c.loop-j.invariant (omega arith) c.entry-pair.ensures.tens c.entry-pair.ensures.ones)

pub returns-then-k-eq1 : goal.returns-then-k-eq1
returns-then-k-eq1 c =
    spelling-first _ _ _ _ _ _ c.loop-j.invariant (omega arith) (omega arith)

pub returns-else-k-eq1 : goal.returns-else-k-eq1
returns-else-k-eq1 c =
    spelling-done _ _ _ _ _ _ c.loop-j.invariant (omega arith)
