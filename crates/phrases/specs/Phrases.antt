-- The phrases of the refusals (BEHAVIOUR: Why): one for each number, in plain words.
-- Assumes nothing.
use Rattle.std.specs.Prelude.{ℕ, List, [], ◌∷◌, get_or}
use Rattle.laws.specs.Spelt.{spelt}

-- by number, from 0, which is given where nothing is refused
unfoldable pub phrases : List (List ℕ)
phrases =
    spelt "accepted"
    ∷ spelt "not in a form that can be read"
    ∷ spelt "a number has too many digits"
    ∷ spelt "a dropped label, which no frame has"
    ∷ spelt "a perf field, which this film format does not have"
    ∷ spelt "the count of frames is out of bounds"
    ∷ spelt "no such rate or film format"
    ∷ spelt "a division by zero"
    ∷ spelt "no room for what is to be written"
    ∷ spelt "no such kind of record"
    ∷ spelt "a record is cut short"
    ∷ spelt "a shot before any rate"
    ∷ spelt "a shot ends before it begins"
    ∷ spelt "no such place on the film"
    ∷ spelt "not a time of day"
    ∷ spelt "a position where only a length may be"
    ∷ spelt "a directory that breaks its rules"
    ∷ spelt "a query that ends past the day"
    ∷ []

-- the phrase of a number; a number that no refusal has has none
unfoldable pub phrase_of : (number : ℕ) → List ℕ
phrase_of number = get_or phrases number []
