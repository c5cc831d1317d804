-- `telling::questions::option` meets its contract: the word that stands there is within the line.
-- Assumes nothing.
use mathlib.Core.Path.{sym, ◌∙◌}
use native.Mathlib.Omega.{arith}
use Rattle.laws.specs.Spelt.{spelt}
use Rattle.telling.proofs.WordLaws.{word-within}
use Rattle.telling.proofs.questions.option.Goals as goal

pub overflow_add-result : goal.overflow_add-result
overflow_add-result c =
    omega (arith, word-within c.args.line.now c.args.o.at _ (spelt "-p ") (spelt "--position ") (omega arith) (omega arith) (sym c.in-Some.is ∙ c.one_of.ensures))
