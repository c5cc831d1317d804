-- What holds of the phrases (BEHAVIOUR: Why): each number has one of its own, short and plain. Proofs: proofs/Statements.antt.
-- Assumes nothing.
use Rattle.std.specs.Prelude.{ℕ, ◌≤◌, ◌<◌, ◌≡◌, Bool, true, not, ◌&&◌, [], eqb, leb, length}
use Rattle.laws.specs.Every.{every}
use Rattle.laws.specs.Spelt.{spelt}
use Rattle.phrases.specs.Phrases.{phrase_of}

-- the phrases in words: 0, given where nothing is refused, has `accepted`
pub record PhrasesAre : Type 0 where
  pub phrase_0 : phrase_of 0 ≡ spelt "accepted"
  pub phrase_1 : phrase_of 1 ≡ spelt "not in a form that can be read"
  pub phrase_2 : phrase_of 2 ≡ spelt "a number has too many digits"
  pub phrase_3 : phrase_of 3 ≡ spelt "a dropped label, which no frame has"
  pub phrase_4 : phrase_of 4 ≡ spelt "a perf field, which this film format does not have"
  pub phrase_5 : phrase_of 5 ≡ spelt "the count of frames is out of bounds"
  pub phrase_6 : phrase_of 6 ≡ spelt "no such rate or film format"
  pub phrase_7 : phrase_of 7 ≡ spelt "a division by zero"
  pub phrase_8 : phrase_of 8 ≡ spelt "no room for what is to be written"
  pub phrase_9 : phrase_of 9 ≡ spelt "no such kind of record"
  pub phrase_10 : phrase_of 10 ≡ spelt "a record is cut short"
  pub phrase_11 : phrase_of 11 ≡ spelt "a shot before any rate"
  pub phrase_12 : phrase_of 12 ≡ spelt "a shot ends before it begins"
  pub phrase_13 : phrase_of 13 ≡ spelt "no such place on the film"
  pub phrase_14 : phrase_of 14 ≡ spelt "not a time of day"
  pub phrase_15 : phrase_of 15 ≡ spelt "a position where only a length may be"
  pub phrase_16 : phrase_of 16 ≡ spelt "a directory that breaks its rules"
  pub phrase_17 : phrase_of 17 ≡ spelt "a query that ends past the day"

-- no two numbers have the same phrase
abbrev pub PhrasesApart : Type 0
PhrasesApart = (m n : ℕ) → m ≤ 17 → n ≤ 17 → phrase_of m ≡ phrase_of n → m ≡ n

-- a byte of printable ASCII that is no `#`
abbrev pub is_plain_byte : ℕ → Bool
is_plain_byte b = leb 32 b && (leb b 126 && not (eqb b 35))

-- each has such bytes only, one at least and 128 at most
abbrev pub PhrasesPlain : Type 0
PhrasesPlain =
    (n : ℕ) → n ≤ 17 → (every is_plain_byte (phrase_of n) ≡ true) × ((0 < length (phrase_of n)) × (length (phrase_of n) ≤ 128))

-- a number past the last refusal has none
abbrev pub NoPhrase : Type 0
NoPhrase = (n : ℕ) → 17 < n → phrase_of n ≡ []
