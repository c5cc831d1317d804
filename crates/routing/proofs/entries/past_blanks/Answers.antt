-- `routing::entries::past_blanks` meets its contract: what is left behind the blanks from here is what is left behind them from the start.
-- Assumes nothing.
use Rattle.std.proofs.lemmas.Bool.{not_from_false, not_from_true}
use mathlib.Core.Path.{sym, ◌∙◌}
use borrow.Author.Tests.{not-true, not-false}
use Rattle.routing.proofs.Reading.{blanks-turn, blanks-stop, blanks-end}
use Rattle.routing.proofs.entries.past_blanks.Goals as goal

pub returns-then-not-is_blank : goal.returns-then-not-is_blank
returns-then-not-is_blank c =
    blanks-stop c.args.line.now c.loop-i.i c.loop-i-test.true (sym c.is_blank.ensures ∙ not-true _ (not_from_false _ c.if-not-is_blank.true)) ∙ sym c.loop-i.invariant

pub loop-i-preserved : goal.loop-i-preserved
loop-i-preserved c =
    c.loop-i.invariant ∙ blanks-turn c.args.line.now c.loop-i.i c.loop-i-test.true (sym c.is_blank.ensures ∙ not-false _ (not_from_true _ c.if-not-is_blank.false))

pub returns : goal.returns
returns c =
    blanks-end c.args.line.now c.loop-i.i c.loop-i-test.false ∙ sym c.loop-i.invariant
