-- `written::put_padded` meets its contract: the digits, lent the rest of the part, stand right behind the sign.
-- Assumes nothing.
use native.Mathlib.Omega.{arith}
use Prim.Native.Nat.{◌≤◌}
use mathlib.Core.Path.{ap, ◌∙◌}
use lib.ListN.{length}
use Rattle.lent.specs.Line.{laid}
use Rattle.lent.proofs.Laws.{laid-lent}
use Rattle.digits.specs.Digits.{decimal}
use Rattle.written.specs.Parts.{sign_text}
use Rattle.written.proofs.Parts.{decimal-wide, padded-length}
use Rattle.written.proofs.put_padded.Goals as goal
use Rattle.written.proofs.put_padded.Goals.{Start}

-- the sign lies within the room asked for
fit : (c : Start) → length (sign_text c.args.minus) ≤ length c.args.part.now
fit c =
    omega (arith, c.requires, padded-length c.args.minus c.args.least c.args.m)

pub slice_bounds-put_digits-count : goal.slice_bounds-put_digits-count
slice_bounds-put_digits-count c =
    omega (arith, fit (goal.at.slice_bounds-put_digits-count c).Start)

pub slice_bounds-put_digits-start : goal.slice_bounds-put_digits-start
slice_bounds-put_digits-start c =
    omega (arith, fit (goal.at.slice_bounds-put_digits-start c).Start)

pub returns : goal.returns
returns c =
    laid-lent c.args.part.now _ _ (sign_text c.args.minus) (decimal c.args.least c.args.m) c.sign_length-at.result
    c.put_sign.ensures
    c.sign_length-at.ensures
    c.requires
    (c.put_digits.ensures ∙ ap (laid _) (decimal-wide c.args.least c.args.m c.width_of-w.result c.width_of-w.ensures))
