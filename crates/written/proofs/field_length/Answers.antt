-- `written::field_length` meets its contract: a number has 20 digits at most, and its mark is one byte more.
-- Assumes nothing.
use native.Mathlib.Omega.{arith}
use borrow.Author.Rules.{rules}
use Rattle.digits.proofs.Width.{decimal_length}
use Rattle.written.proofs.Parts.{field-most}
use Rattle.written.proofs.field_length.Goals as goal

pub overflow_add-result : goal.overflow_add-result
overflow_add-result c =
    record { fits = omega (arith, decimal_length 2 c.args.n, field-most c.args.n (search rules)) }

pub returns : goal.returns
returns c =
    omega (arith, decimal_length 2 c.args.n)
