-- Bounds of an instant (BEHAVIOUR: Time): that of a valid timecode fits, and two add up below 2 ^ 63.
-- Assumes nothing.
use Rattle.std.specs.Prelude.{◌≤◌, ◌≡◌, pos, nat_abs}
use Rattle.std.proofs.Common.{arith}
use Rattle.numbers.specs.DistanceLaws.{abs-product}
use Rattle.numbers.specs.Total.{fitted-in}
use Rattle.rates.specs.Rates.{frame_ticks}
use Rattle.rates.proofs.Sound.{instant-le}
use Rattle.timecodes.specs.declared.Timecode.{Timecode}
use Rattle.timecodes.specs.Admitted.{Valid}
use Rattle.timecodes.specs.AdmittedLaws.{valid-count-le}
use Rattle.timecodes.specs.Instant.{instant, instant_in}

pub instant-abs-le : (tc : Timecode) → Valid tc → nat_abs (instant tc) ≤ 4237833600000000000
unfolding instant
instant-abs-le tc v =
    rw (abs-product tc.count (pos (frame_ticks tc.rate)))
    (instant-le tc.rate (nat_abs tc.count) v.rate (valid-count-le tc v))

pub instant_in-valid : (tc : Timecode) → Valid tc → instant_in tc ≡ instant tc
unfolding instant_in
instant_in-valid tc v =
    fitted-in _ (instant tc) (omega (arith, instant-le tc.rate (nat_abs tc.count) v.rate (valid-count-le tc v)))
