-- `written::put_marked` meets its contract: the digits, lent the rest of the part, stand right behind the mark.
-- Assumes nothing.
use native.Mathlib.Omega.{arith}
use mathlib.Core.Path.{refl, sym}
use mathlib.Core.List.{[], ◌∷◌}
use Rattle.lent.proofs.Laws.{laid_out, laid-lent}
use Rattle.digits.specs.Digits.{digits_of}
use Rattle.digits.proofs.Values.{digits-length}
use Rattle.written.proofs.put_marked.Goals as goal

pub returns-then-k-part : goal.returns-then-k-part
returns-then-k-part c =
    laid-lent c.args.part.now _ _ (c.args.mark ∷ []) (digits_of c.args.k c.args.n) 1
    c.put_byte.ensures
    refl
    (omega (arith, c.if-k-part.true, digits-length c.args.k c.args.n))
    c.put_digits.ensures

pub returns-else-k-part : goal.returns-else-k-part
returns-else-k-part c =
    sym (laid_out c.args.part.now (c.args.mark ∷ digits_of c.args.k c.args.n) (omega (arith, digits-length c.args.k c.args.n)))
