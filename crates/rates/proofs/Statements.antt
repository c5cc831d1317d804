-- The statements of specs/Statements.antt, proved.
-- Assumes nothing.
use mathlib.Core.Path.{refl}
use borrow.Author.Tests.{ne_eqb}
use Rattle.rates.specs.Rates.{rates, rate_row, drop_frames}
use Rattle.rates.specs.Day.{day_frames}
use Rattle.rates.proofs.Sound.{sound}
use Rattle.rates.specs.Statements.{TicksConsistent, DropsAt, DayAt}

pub ticks_consistent : TicksConsistent
ticks_consistent n h = (sound n h).consistent

pub drops_at : DropsAt
unfolding drop_frames
drops_at = record { at_5 = refl; at_11 = refl; elsewhere = λ n p q. rw (ne_eqb n 5 p, ne_eqb n 11 q) }

pub day_at : DayAt
unfolding day_frames rate_row rates drop_frames
day_at = (refl, refl, refl, refl, refl, refl, refl, refl, refl, refl, refl, refl)
