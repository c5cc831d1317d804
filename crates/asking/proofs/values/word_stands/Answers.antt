-- `asking::values::word_stands` meets its contract: what is left of the line begins with the word.
-- Assumes nothing.
use mathlib.Core.Path.{◌∙◌}
use Rattle.asking.proofs.Standing.{begins-first}
use Rattle.asking.proofs.values.word_stands.Goals as goal

pub returns : goal.returns
returns c = c.starts_with.ensures.value ∙ begins-first c.args.word.now c.args.line.now c.args.at c.min.result c.min.ensures
