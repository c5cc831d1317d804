-- The rule of the table's rows at every rate (BEHAVIOUR: Rates): tested once over the whole table.
-- Assumes nothing.
use Rattle.std.specs.Prelude.{ℕ, zero, suc, ◌*◌, ◌≤◌, ◌<◌, ◌≡◌, refl, Bool, true, List, [], ◌∷◌, leb, ltb, eqb, get_or, false}
use Rattle.std.proofs.Common.{mul-le-mul, arith, leb-true, ltb-true, eqb-true, ap}
use Rattle.rates.specs.declared.Framerate.{Framerate}
use Rattle.laws.specs.Every.{every, at_every}
use Rattle.answers.specs.Refusals.{most_count}
use Rattle.rates.specs.Rates.{rates, is_rate, no_row, rate_row, frame_ticks, second_ticks, drop_frames}
use Rattle.rates.specs.Rule.{in_table, rows-twelve, SoundRow}
use Rattle.rates.specs.Laws.{row_out, drop_le}

-- the same as tests of a row, in the same order
abbrev tests : Framerate → List Bool
tests r =
    eqb (r.ticks * r.numerator) (second_ticks * r.denominator)
    ∷ leb (23 * r.denominator) r.numerator
    ∷ leb r.numerator (60 * r.denominator)
    ∷ ltb 0 r.numerator
    ∷ leb r.numerator 60000
    ∷ ltb 0 r.denominator
    ∷ leb r.denominator 1001
    ∷ leb 24 r.timebase
    ∷ leb r.timebase 60
    ∷ leb 4233600000 r.ticks
    ∷ leb r.ticks 10594584000
    ∷ []

abbrev passed : Bool → Bool
passed t = t

abbrev is_sound : Framerate → Bool
is_sound r = every passed (tests r)

-- over the whole table, by computation
all_sound : every is_sound rates ≡ true
unfolding rates
all_sound = refl

row-sound : (r : Framerate) → is_sound r ≡ true → SoundRow r
row-sound r e =
    let test : (i : ℕ) → i < 11 → get_or (tests r) i true ≡ true = at_every passed (tests r) true e in
    record {
      consistent = eqb-true _ _ (test 0 (omega arith));
      slowest = leb-true _ _ (test 1 (omega arith));
      fastest = leb-true _ _ (test 2 (omega arith));
      numerator_pos = ltb-true _ _ (test 3 (omega arith));
      numerator_most = leb-true _ _ (test 4 (omega arith));
      denominator_pos = ltb-true _ _ (test 5 (omega arith));
      denominator_most = leb-true _ _ (test 6 (omega arith));
      timebase_least = leb-true _ _ (test 7 (omega arith));
      timebase_most = leb-true _ _ (test 8 (omega arith));
      ticks_least = leb-true _ _ (test 9 (omega arith));
      ticks_most = leb-true _ _ (test 10 (omega arith));
    }

-- the rule holds at every rate
pub sound : (n : ℕ) → is_rate n ≡ true → SoundRow (rate_row n)
unfolding rate_row
sound zero h = absurd (omega (arith, (in_table zero h).0))
sound (suc m) h = row-sound (rate_row (suc m)) (at_every is_sound rates no_row all_sound m (omega (arith, rows-twelve, (in_table (suc m) h).1)))

-- a frame lasts
pub frame_ticks-pos : (rate : ℕ) → is_rate rate ≡ true → 0 < frame_ticks rate
frame_ticks-pos rate h = omega (arith, (sound rate h).ticks_least)

-- the ticks of a count within its bounds, at any rate: the sum of two such is below 2 ^ 63
pub instant-le : (n count : ℕ) → is_rate n ≡ true → count ≤ most_count → count * frame_ticks n ≤ 4237833600000000000
instant-le n count h bound = mul-le-mul bound (sound n h).ticks_most

-- a minute drops fewer labels than the timebase has, at any rate
pub drop-small : (n : ℕ) → is_rate n ≡ true → drop_frames n < (rate_row n).timebase
drop-small n h = let s = sound n h in omega (arith, drop_le n)

-- no frame lasts longer than that of 23.98, at any number
pub frame_ticks-le : (n : ℕ) → frame_ticks n ≤ 10594584000
frame_ticks-le n = go (is_rate n) refl
  where
    go : (t : Bool) → is_rate n ≡ t → frame_ticks n ≤ 10594584000
    go true e = (sound n e).ticks_most
    go false e = omega (arith, ap (λ (r : Framerate). r.ticks) (row_out n e))
