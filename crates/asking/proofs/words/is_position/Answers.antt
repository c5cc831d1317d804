-- `asking::words::is_position` meets its contract: by the letter, and the two bytes that stand there.
-- Assumes nothing.
use mathlib.Core.Path.{◌∙◌}
use borrow.Author.Tests.{ne_eqb}
use Rattle.asking.proofs.Taken.{position-none, position-by}
use Rattle.asking.proofs.words.is_position.Goals as goal

pub returns-then-kind-eq64 : goal.returns-then-kind-eq64
returns-then-kind-eq64 c = c.word_stands.ensures ∙ position-by c.args.kind _ c.if-kind-eq64.true

pub returns-else-kind-eq64 : goal.returns-else-kind-eq64
returns-else-kind-eq64 c = ne_eqb _ 64 c.if-kind-eq64.false ∙ position-none c.args.kind _ c.if-kind-eq64.false
