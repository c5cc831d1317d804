-- The instant of a timecode (BEHAVIOUR: Rates).
-- Assumes nothing.
use Rattle.std.specs.Prelude.{◌*◌, ℤ, pos, nat_abs, ◌*ℤ◌}
use Rattle.numbers.specs.Total.{fitted}
use Rattle.rates.specs.Rates.{frame_ticks}
use Rattle.timecodes.specs.declared.Timecode.{Timecode}

-- its instant in ticks is count times the ticks of a frame at its rate, exactly
unfoldable pub instant : Timecode → ℤ
instant tc = tc.count *ℤ pos (frame_ticks tc.rate)

-- the same of any record: 0 where it passes 64 bits, which no admitted timecode's does
unfoldable pub instant_in : Timecode → ℤ
instant_in tc = fitted (nat_abs tc.count * frame_ticks tc.rate) (instant tc)
