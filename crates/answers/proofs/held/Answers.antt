-- `answers::held` meets its contract: the magnitude that is tested is that of the number.
-- Assumes nothing.
use Rattle.std.specs.Prelude.{Ok, Err}
use mir.Syntax.{w64}
use mathlib.Core.Path.{sym, ◌∙◌, ap}
use native.Mathlib.Omega.{arith}
use borrow.Author.Tests.{le-leb, lt-leb}
use lib.IntN.{nat_abs}
use mir.Facts.{to_z-of_z}
use Rattle.numbers.specs.Sign.{signed}
use Rattle.numbers.specs.SignLaws.{abs-signed}
use Rattle.numbers.specs.Total.{fitted-in}
use Rattle.answers.specs.Refusals.{most_count}
use Rattle.answers.specs.Laws.{held_in, held_out}
use Rattle.answers.proofs.held.Goals as goal

pub returns-then-m-gt-MOST_COUNT : goal.returns-then-m-gt-MOST_COUNT
returns-then-m-gt-MOST_COUNT c =
    ap Err c.into.ensures ∙ sym (held_out (signed c.args.minus c.args.m) (lt-leb (nat_abs (signed c.args.minus c.args.m)) most_count (omega (arith, abs-signed c.args.minus c.args.m))))

pub returns : goal.returns
returns c =
    ap Ok (to_z-of_z {w = w64} (record { sfits = c.with_sign.type_inv }) ∙ c.with_sign.ensures ∙ fitted-in c.args.m (signed c.args.minus c.args.m) (omega arith))
    ∙ sym (held_in (signed c.args.minus c.args.m) (le-leb (nat_abs (signed c.args.minus c.args.m)) most_count (omega (arith, abs-signed c.args.minus c.args.m))))
