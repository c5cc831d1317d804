-- What holds of the rates beyond one call (BEHAVIOUR: Rates): the statements. Proofs: proofs/Statements.antt.
-- Assumes nothing.
use Rattle.std.specs.Prelude.{ℕ, ◌*◌, ◌≡◌, true}
use Rattle.rates.specs.Rates.{is_rate, rate_row, second_ticks, drop_frames}
use Rattle.rates.specs.Day.{day_frames}

-- a second has 254016000000 ticks: at every rate, ticks a frame times numerator is 254016000000 times denominator
abbrev pub TicksConsistent : Type 0
TicksConsistent =
    (n : ℕ) → is_rate n ≡ true → (rate_row n).ticks * (rate_row n).numerator ≡ second_ticks * (rate_row n).denominator

-- a minute drops two labels at rate 5 and four at rate 11, and at any other rate none
pub record DropsAt : Type 0 where
  pub at_5 : drop_frames 5 ≡ 2
  pub at_11 : drop_frames 11 ≡ 4
  pub elsewhere : (n : ℕ) → (n ≡ 5 → ⊥) → (n ≡ 11 → ⊥) → drop_frames n ≡ 0

-- the frames of a day, rate by rate: 24 hours of the timebase, less the dropped labels at rates 5 and 11
abbrev pub DayAt : Type 0
DayAt =
    (day_frames 1 ≡ 2_073_600) × (day_frames 2 ≡ 2_073_600) × (day_frames 3 ≡ 2_160_000) × (day_frames 4 ≡ 2_592_000)
    × (day_frames 5 ≡ 2_589_408) × (day_frames 6 ≡ 2_592_000) × (day_frames 7 ≡ 4_147_200) × (day_frames 8 ≡ 4_147_200)
    × (day_frames 9 ≡ 4_320_000) × (day_frames 10 ≡ 5_184_000) × (day_frames 11 ≡ 5_178_816) × (day_frames 12 ≡ 5_184_000)
