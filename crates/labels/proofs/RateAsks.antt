-- What the private functions ask of a timebase and a number of dropped labels holds of the row of every rate.
-- Assumes nothing.
use mathlib.Core.Path.{◌≡◌}
use mathlib.Core.Bool.{true}
use Prim.Native.Nat.{ℕ, ◌≤◌, ◌<◌}
use Rattle.rates.specs.declared.Framerate.{Framerate}
use Rattle.rates.specs.Rates.{is_rate, rate_row, drop_frames}
use Rattle.rates.proofs.Sound.{sound, drop-small}

pub rate-asks :
    (rate : ℕ) (row : Framerate) (d : ℕ) → is_rate rate ≡ true → row ≡ rate_row rate → d ≡ drop_frames rate
    → (row.timebase ≤ 60) × (d < row.timebase)
rate-asks rate row d h a b = rw (a, b) ((sound rate h).timebase_most, drop-small rate h)
