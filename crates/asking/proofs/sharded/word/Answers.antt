-- `asking::sharded::word` meets its contract: the place behind the space, where a word of shards begins; a line's places are within 64 bits.
-- Assumes nothing.
use mir.Syntax.{w64}
use mathlib.Core.Path.{sym, ◌∙◌}
use native.Mathlib.Omega.{arith}
use borrow.Author.Tests.{not-true, not-false}
use mir.Facts.{to_z-of_z}
use Rattle.numbers.specs.Total.{fitted-in}
use Rattle.asking.proofs.NumberLaws.{stands-within}
use Rattle.asking.proofs.Ranges.{shards-apart, shards-not, shards-place}
use Rattle.asking.proofs.sharded.word.Goals as goal

pub returns-then-not-stands : goal.returns-then-not-stands
returns-then-not-stands c =
    shards-apart c.args.line.now c.args.at (sym c.stands.ensures ∙ c.if-not-stands.true)

pub returns-then-not-s : goal.returns-then-not-s
returns-then-not-s c =
    shards-not c.args.line.now c.args.at (sym c.stands.ensures ∙ c.if-not-stands.false) _ c.spelled-s.ensures.answer (not-true _ c.if-not-s.true)

pub returns : goal.returns
returns c =
    let space = sym c.stands.ensures ∙ c.if-not-stands.false in
    shards-place c.args.line.now c.args.at space _ c.spelled-s.ensures.answer (not-false _ c.if-not-s.false) _
    (to_z-of_z {w = w64} (record { sfits = c.with_sign.type_inv }) ∙ c.with_sign.ensures
    ∙ fitted-in _ _ (omega (arith, stands-within c.args.line.now c.args.at 32 space, c.well_formed.0.1)))
