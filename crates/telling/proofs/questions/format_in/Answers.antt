-- `telling::questions::format_in` meets its contract: the word that stands there is within the line.
-- Assumes nothing.
use mathlib.Core.Path.{sym, ◌∙◌}
use native.Mathlib.Omega.{arith}
use Rattle.laws.specs.Spelt.{spelt}
use Rattle.telling.proofs.WordLaws.{word-within}
use Rattle.telling.proofs.questions.format_in.Goals as goal

pub overflow_add-o : goal.overflow_add-o
overflow_add-o c =
    omega (arith, word-within c.args.line.now c.args.o.at _ (spelt "-f ") (spelt "--format ") (omega arith) (omega arith) (sym c.in-Some-one_of.is ∙ c.one_of.ensures))
