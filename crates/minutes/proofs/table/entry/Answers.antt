-- `minutes::table::entry` meets its contract: the constants are the entries that the step rule makes, by computation.
-- Assumes nothing.
use borrow.Author.Rules.{rules}
use Rattle.minutes.proofs.Entries.{entries, entry-is}
use Rattle.minutes.proofs.table.entry.Goals as goal

pub returns : goal.returns
unfolding entries
returns c =
    entry-is 1440 c.args.minute (search rules)
