-- `rates::entry` meets its contract: a rate's number less 1 is a place in the table, whose rows are those of the definition.
-- Assumes nothing.
use native.Mathlib.Omega.{arith}
use mathlib.Core.Path.{sym}
use Rattle.rates.specs.Rates.{rates}
use Rattle.rates.specs.Rule.{in_table}
use Rattle.rates.specs.Laws.{row_in}
use Rattle.rates.proofs.entry.Goals as goal

pub overflow_sub-result : goal.overflow_sub-result
overflow_sub-result c =
    (in_table c.args.no c.requires).0

pub offset_bounds-no : goal.offset_bounds-no
offset_bounds-no c =
    record { fits = omega (arith, in_table c.args.no c.requires) }

pub bounds-no-no : goal.bounds-no-no
bounds-no-no c =
    (in_table c.args.no c.requires).1

pub returns : goal.returns
unfolding rates
returns c =
    sym (row_in c.args.no c.requires)
