-- `exports::TzqLengthFromResultUsizeRefusal::from` meets its contract: each arm gives the numbers of its case.
-- Assumes nothing.
use Rattle.exports.specs.Handed.{handed_length}
use Rattle.exports.proofs.handed.TzqLengthFromResultUsizeRefusal.from.Goals as goal

pub returns-in-Ok : goal.returns-in-Ok
unfolding handed_length
returns-in-Ok c =
    simp c.in-Ok.is

pub returns-in-Err : goal.returns-in-Err
unfolding handed_length
returns-in-Err c =
    simp (c.number_of.ensures, c.in-Err.is)
