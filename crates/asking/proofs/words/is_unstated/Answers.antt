-- `asking::words::is_unstated` meets its contract: by the letter, the two bytes that stand there, and what is behind them.
-- Assumes nothing.
use mathlib.Core.Path.{sym, ◌∙◌}
use native.Mathlib.Omega.{arith}
use Rattle.laws.specs.Spelt.{spelt}
use Rattle.asking.proofs.Standing.{word-ends}
use Rattle.asking.proofs.Taken.{unstated-none, unstated-apart, unstated-by}
use Rattle.asking.proofs.words.is_unstated.Goals as goal

pub overflow_add-at : goal.overflow_add-at
overflow_add-at c =
    omega (arith, word-ends c.args.line.now c.args.at (spelt " -") (sym c.word_stands.ensures ∙ c.if-word_stands.true) (omega arith))

pub returns-then-word_stands : goal.returns-then-word_stands
returns-then-word_stands c =
    c.is_over.ensures
    ∙ unstated-by c.args.kind c.args.line.now c.args.at (omega (arith, c.if-kind-ne102.false)) (sym c.word_stands.ensures ∙ c.if-word_stands.true)

pub returns-else-word_stands : goal.returns-else-word_stands
returns-else-word_stands c = c.if-word_stands.false ∙ unstated-apart _ _ (sym c.word_stands.ensures ∙ c.if-word_stands.false)

pub returns-then-kind-ne102 : goal.returns-then-kind-ne102
returns-then-kind-ne102 c = unstated-none c.args.kind _ c.if-kind-ne102.true
