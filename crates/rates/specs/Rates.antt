-- Rates, one constant table (BEHAVIOUR: Rates): its rows, the row of a rate number, and the labels that a minute drops.
-- Assumes nothing.
use Rattle.answers.specs.declared.Refusal.{Refusal}
use Rattle.std.specs.Prelude.{ℕ, Bool, cond, not, ◌&&◌, ◌||◌, List, [], ◌∷◌, leb, eqb, get_or, Result, Ok, Err}
use Rattle.answers.specs.Causes.{refusal_number}
use Rattle.answers.specs.Order.{Condition, when, unless}
use Rattle.answers.specs.Refusals.{no_such}
use Rattle.rates.specs.declared.Framerate.{Framerate}

-- a row of the table
abbrev pub framerate : (numerator denominator timebase ticks : ℕ) → Framerate
framerate n d b t = record { numerator = n; denominator = d; timebase = b; ticks = t }

-- rates 1 to 12 in order, a row each: frames/s (over 1 where it is whole), timebase, ticks a frame
unfoldable pub rates : List Framerate
rates =
    framerate 24000 1001 24 10594584000  -- 1: 23.98
    ∷ framerate 24 1 24 10584000000  -- 2: 24
    ∷ framerate 25 1 25 10160640000  -- 3: 25
    ∷ framerate 30000 1001 30 8475667200  -- 4: 29.97
    ∷ framerate 30000 1001 30 8475667200  -- 5: 29.97 drop
    ∷ framerate 30 1 30 8467200000  -- 6: 30
    ∷ framerate 48000 1001 48 5297292000  -- 7: 47.95
    ∷ framerate 48 1 48 5292000000  -- 8: 48
    ∷ framerate 50 1 50 5080320000  -- 9: 50
    ∷ framerate 60000 1001 60 4237833600  -- 10: 59.94
    ∷ framerate 60000 1001 60 4237833600  -- 11: 59.94 drop
    ∷ framerate 60 1 60 4233600000  -- 12: 60
    ∷ []

-- a rate is a number from 1 to 12
unfoldable pub is_rate : ℕ → Bool
is_rate n = leb 1 n && leb n 12

-- zeros: the row of a number that is no rate
abbrev pub no_row : Framerate
no_row = framerate 0 0 0 0

-- the row of a rate number
unfoldable pub rate_row : ℕ → Framerate
rate_row n = get_or (no_row ∷ rates) n no_row

-- the ticks of a frame at a rate: the last column
abbrev pub frame_ticks : (rate : ℕ) → ℕ
frame_ticks rate = (rate_row rate).ticks

-- a second has 254016000000 ticks
abbrev pub second_ticks : ℕ
second_ticks = 254016000000

-- 6: no such rate (1 to 12)
abbrev pub bad_rate : (rate : ℕ) → Condition
bad_rate rate = when no_such (not (is_rate rate))

unfoldable pub rate_at : ℕ → Result Framerate Refusal
rate_at n = unless Err (bad_rate n ∷ []) (Ok (rate_row n))

-- D is 2 at rate 5, 4 at rate 11, else 0
unfoldable pub drop_frames : ℕ → ℕ
drop_frames n = cond (eqb n 5) 2 (cond (eqb n 11) 4 0)

-- the drop rates are 5 and 11
unfoldable pub is_drop : ℕ → Bool
is_drop n = eqb n 5 || eqb n 11

-- the number of an answer (0: not refused), and its row (a refusal's numbers are 0)
abbrev pub number_of : Result Framerate Refusal → ℕ
number_of (Ok r) = 0
number_of (Err e) = refusal_number e

abbrev pub row_of : Result Framerate Refusal → Framerate
row_of (Ok r) = r
row_of (Err e) = no_row
