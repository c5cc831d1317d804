-- `written::padded_length` meets its contract: a sign of one byte at most, and as many digits as the number has or more.
-- Assumes nothing.
use native.Mathlib.Omega.{arith}
use borrow.Author.Rules.{rules}
use Rattle.written.proofs.Parts.{sign-most, wide-most, padded-length}
use Rattle.written.proofs.padded_length.Goals as goal

pub overflow_add-result : goal.overflow_add-result
overflow_add-result c =
    record {
      fits =
          omega (
            arith,
            sign-most c.args.minus,
            wide-most c.args.least c.args.m _ c.requires (search rules) c.width_of.ensures,
          );
    }

pub returns : goal.returns
returns c =
    omega (arith, padded-length c.args.minus c.args.least c.args.m)
