-- `labels::numbering::Numbering::of` meets its contract: what a numbering keeps holds of the row of every rate.
-- Assumes nothing.
use Rattle.labels.proofs.RateAsks.{rate-asks}
use Rattle.labels.proofs.numbering.Numbering.of.Goals as goal

pub invariant_of-result : goal.invariant_of-result
invariant_of-result c =
    let asks = rate-asks c.args.rate c.row.result c.drop_frames_per_minute.result c.requires c.row.ensures c.drop_frames_per_minute.ensures in
    record { timebase_most = asks.0; fewer = asks.1 }
