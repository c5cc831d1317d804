-- `exports::TzqCheckedFromResultUsizeRefusal::from` meets its contract: each arm gives the numbers of its case.
-- Assumes nothing.
use Rattle.exports.specs.HandedLists.{handed_checked}
use Rattle.exports.proofs.lists.TzqCheckedFromResultUsizeRefusal.from.Goals as goal

pub returns-in-Ok : goal.returns-in-Ok
unfolding handed_checked
returns-in-Ok c =
    simp c.in-Ok.is

pub returns-in-Err : goal.returns-in-Err
unfolding handed_checked
returns-in-Err c =
    simp (c.number_of.ensures, c.in-Err.is)
