-- `asking::table::row_named` meets its contract: no row before has the word.
-- Assumes nothing.
use mathlib.Core.Path.{sym, ◌∙◌}
use native.Mathlib.Omega.{arith}
use Rattle.asking.proofs.Named.{seeking-found, seeking-turn, seeking-none}
use Rattle.asking.proofs.table.row_named.Goals as goal

pub returns-then-is_named : goal.returns-then-is_named
returns-then-is_named c =
    let e = seeking-found _ _ c.loop-row.invariant c.loop-row-test.true (sym c.is_named.ensures ∙ c.if-is_named.true) in
    (omega (arith, e, c.loop-row-test.true), e)

pub loop-row-preserved : goal.loop-row-preserved
loop-row-preserved c =
    seeking-turn _ _ c.loop-row.invariant c.loop-row-test.true (sym c.is_named.ensures ∙ c.if-is_named.false)

pub returns : goal.returns
returns c h =
    let e = seeking-none _ _ c.loop-row.invariant c.loop-row-test.false in
    omega (arith, e, h, c.loop-row-test.false)
