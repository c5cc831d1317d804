-- `asking::table::byte_at` meets its contract: the constant is the rows' words and letters, filled up, by computation.
-- Assumes nothing.
use mathlib.Core.Path.{refl}
use Rattle.asking.specs.Table.{rows, filled, bytes_in, table_bytes}
use Rattle.asking.proofs.table.byte_at.Goals as goal

pub returns : goal.returns
unfolding rows filled bytes_in table_bytes
returns c =
    refl
