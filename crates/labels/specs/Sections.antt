-- The labels in their order, and the fields of the label that a count has (BEHAVIOUR: Labels and counts).
-- Assumes nothing.
use Rattle.std.specs.Prelude.{Bool, not, List, [], ◌∷◌, ℕ, ◌+◌, ◌*◌, ◌-◌, ◌/◌, ◌%◌}
use Rattle.labels.specs.Label.{hours_in, minutes_in, seconds_in, frames_in, dropped_in}

-- the number of a label, dropped ones numbered too: (60 x M + seconds) x timebase + frames
abbrev pub label_number : (timebase : ℕ) (fields : List ℕ) → ℕ
label_number timebase fields =
    (60 * (60 * hours_in fields + minutes_in fields) + seconds_in fields) * timebase + frames_in fields

-- the fields of the label with a number: hours, minutes, seconds, frames
unfoldable pub fields_at : (timebase number : ℕ) → List ℕ
fields_at timebase number =
    let s = number / timebase in s / 60 / 60 ∷ s / 60 % 60 ∷ s % 60 ∷ number % timebase ∷ []

-- the label with that number is not dropped
unfoldable pub is_allowed : (timebase D number : ℕ) → Bool
is_allowed timebase D number = not (dropped_in D (fields_at timebase number))

-- how many labels are dropped before the one with the count n: 9 x D for each ten minutes, which have 600 x timebase - 9 x D
-- counts, and D for each minute after the first of the ten
unfoldable pub dropped_before : (timebase D n : ℕ) → ℕ
dropped_before timebase D n =
    let tens = 600 * timebase - 9 * D in
    D * (9 * (n / tens) + (n % tens - D) / (60 * timebase - D))

-- the fields of the one allowed label whose count is n: HasLabel and OneLabel, of specs/Statements.antt, say that they are
unfoldable pub sections_of : (timebase D n : ℕ) → List ℕ
sections_of timebase D n = fields_at timebase (n + dropped_before timebase D n)
