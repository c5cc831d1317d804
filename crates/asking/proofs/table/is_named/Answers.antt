-- `asking::table::is_named` meets its contract: byte by byte the two are the same, and where the word ends the other has a space.
-- Assumes nothing.
use mathlib.Core.Path.{ap, ◌≡◌, sym, ◌∙◌}
use native.Mathlib.Omega.{arith}
use lib.Dec.{eqb}
use lib.ListN.{get_or, length}
use Rattle.asking.specs.Table.{row_at}
use Rattle.asking.proofs.Filled.{name-at}
use Rattle.asking.proofs.Named.{comparing-turn, comparing-other, comparing-done, same-longer, name-plain, name-short}
use Rattle.asking.proofs.table.is_named.Goals as goal
use Rattle.asking.proofs.table.is_named.Goals.{After-byte_at}

pub returns-then-word-gt15 : goal.returns-then-word-gt15
returns-then-word-gt15 c =
    sym (same-longer _ _ (omega (arith, name-short c.args.row c.requires.row)))

-- the row's byte
there : (c : After-byte_at)
    → c.byte_at.result ≡ get_or (row_at c.args.row).name c.loop-i.i 32
there c =
    c.byte_at.ensures ∙ name-at _ _ c.requires.row (omega arith)

pub returns-then-b-byte_at : goal.returns-then-b-byte_at
returns-then-b-byte_at c =
    sym (comparing-other _ _ _ c.loop-i.invariant.0 c.loop-i-test.true (λ e. c.if-b-byte_at.true (e ∙ sym (there (goal.at.returns-then-b-byte_at c).After-byte_at))))

pub loop-i-preserved : goal.loop-i-preserved
loop-i-preserved c =
    (comparing-turn _ _ _ c.loop-i.invariant.0 c.requires.word c.loop-i-test.true (c.if-b-byte_at.false ∙ there (goal.at.loop-i-preserved c).After-byte_at), c.loop-i.invariant.1)

pub returns : goal.returns
returns c =
    let e : length c.args.word.now ≡ c.loop-i.i = omega (arith, c.loop-i.invariant.0) in
    ap (λ z. eqb z 32) (c.byte_at-2.ensures ∙ rw e (name-at c.args.row c.loop-i.i c.requires.row (omega arith)))
    ∙ sym (comparing-done _ _ _ c.loop-i.invariant.0 (name-plain _ c.requires.row) c.loop-i-test.false)
