-- Fields that are right-justified in four places, absent ones zero (BEHAVIOUR: Text shapes).
-- Assumes nothing.
use Rattle.std.specs.Prelude.{ℕ, zero, suc, ◌^◌, ◌<◌, List, [], ◌∷◌, ◌++◌, length, drop, get_or}

-- so many zeros
abbrev pub zeros : (places : ℕ) → List ℕ
zeros zero = []
zeros (suc n) = 0 ∷ zeros n

-- right-justified, absent ones zero: of four zeros and then the values, the last four
abbrev pub justified : (values : List ℕ) → List ℕ
justified values = drop (length values) (zeros 4 ++ values)

-- each next value is the last, the others moved one place left
abbrev pub shift : (values : List ℕ) (value : ℕ) → List ℕ
shift values value = drop 1 (values ++ (value ∷ []))

-- each number is below 10^9
abbrev pub Below : List ℕ → Type 0
Below l = (i : ℕ) → get_or l i 0 < 10 ^ 9
