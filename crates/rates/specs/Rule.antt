-- What holds of every row of the table (BEHAVIOUR: Rates). That it does: proofs/Sound.antt.
-- Assumes nothing.
use Rattle.std.specs.Prelude.{ℕ, ◌-◌, ◌*◌, ◌≤◌, ◌<◌, ◌≡◌, refl, true, leb, length}
use Rattle.std.proofs.Common.{arith, leb-true}
use Rattle.std.proofs.Math.Bool.{and-eq-true_iff}
use Rattle.rates.specs.declared.Framerate.{Framerate}
use Rattle.rates.specs.Rates.{rates, is_rate, second_ticks}

-- the ticks of a frame agree with the frames of a second, which are from 23 to 60; and each column has its bounds
pub record SoundRow (r : Framerate) : Type 0 where
  pub consistent : r.ticks * r.numerator ≡ second_ticks * r.denominator
  pub slowest : 23 * r.denominator ≤ r.numerator
  pub fastest : r.numerator ≤ 60 * r.denominator
  pub numerator_pos : 0 < r.numerator
  pub numerator_most : r.numerator ≤ 60000
  pub denominator_pos : 0 < r.denominator
  pub denominator_most : r.denominator ≤ 1001
  pub timebase_least : 24 ≤ r.timebase
  pub timebase_most : r.timebase ≤ 60
  pub ticks_least : 4233600000 ≤ r.ticks
  pub ticks_most : r.ticks ≤ 10594584000

-- there are twelve
pub rows-twelve : length rates ≡ 12
unfolding rates
rows-twelve = refl

-- a rate's place in the table
pub in_table : (n : ℕ) → is_rate n ≡ true → (0 < n) × (n - 1 < 12)
unfolding is_rate
in_table n h =
    let p = (and-eq-true_iff (leb 1 n) (leb n 12)).0 h in
    let low = leb-true 1 n p.0 in
    let high = leb-true n 12 p.1 in
    (omega arith, omega arith)
