-- `exports::TzqFormatFromResultFilmFormatRefusal::from` meets its contract: each arm gives what is known in its case.
-- Assumes nothing.
use Rattle.exports.specs.Handed.{handed_format}
use Rattle.exports.proofs.handed.TzqFormatFromResultFilmFormatRefusal.from.Goals as goal

pub returns-in-Ok : goal.returns-in-Ok
unfolding handed_format
returns-in-Ok c =
    simp (c.in-Ok.is, c.perfs_per_frame.ensures, c.perfs_per_foot.ensures, c.allows_perf_field.ensures)

pub returns-in-Err : goal.returns-in-Err
unfolding handed_format
returns-in-Err c =
    simp (c.number_of.ensures, c.in-Err.is)
