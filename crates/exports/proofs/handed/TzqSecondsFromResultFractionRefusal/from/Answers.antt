-- `exports::TzqSecondsFromResultFractionRefusal::from` meets its contract: each arm gives the numbers of its case.
-- Assumes nothing.
use mathlib.Core.Path.{◌≡◌}
use mir.Syntax.{w64}
use mir.Val.{to_z, of_z}
use Rattle.exports.specs.Handed.{handed_seconds}
use borrow.Author.Rules.{rules}
use Rattle.exports.proofs.handed.TzqSecondsFromResultFractionRefusal.from.Goals as goal

pub returns-in-Ok : goal.returns-in-Ok
unfolding handed_seconds
returns-in-Ok c =
    let back : to_z w64 (of_z w64 c.in-Ok.f.p) ≡ c.in-Ok.f.p = search rules in
    simp (back, c.in-Ok.is)

pub returns-in-Err : goal.returns-in-Err
unfolding handed_seconds
returns-in-Err c =
    simp (c.number_of.ensures, c.in-Err.is)
