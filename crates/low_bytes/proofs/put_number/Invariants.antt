-- What each turn of the loop keeps: the bytes that were set, with those of what is left behind them, are those of the number.
-- Assumes nothing.
use Rattle.std.proofs.Common.{◌≡◌, ◌++◌, ◌-◌, take}
use Rattle.low_bytes.specs.LowBytes.{low_bytes}
use Rattle.low_bytes.proofs.put_number.Given as goal

abbrev pub invariant-loop-byte : goal.invariant-loop-byte
invariant-loop-byte l = low_bytes l.width l.n ≡ take l.byte-index l.byte-items ++ low_bytes (l.width - l.byte-index) l.rest
