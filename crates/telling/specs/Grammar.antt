-- What a question is made of (docs/WHY.md), as a grammar: no reader stands in it. Words are divided by one space.
-- Assumes nothing.
use Rattle.std.specs.Prelude.{ℕ, ◌≤◌, List, ◌∷◌, ◌++◌, length, Some, None}
use Rattle.laws.specs.Spelt.{spelt}
use Rattle.digits.specs.Digits.{IsField, value_of}
use Rattle.timecodes.specs.declared.kinds.Kind.TheVariants.{Length, Position}
use Rattle.telling.specs.declared.told.Options.{Options}
use Rattle.telling.specs.declared.told.Way.{Way}
use Rattle.telling.specs.Question.{options, way_of}

-- a number: one to nine digits
pub data Numeral : List ℕ → ℕ → Type 0 where
  numeral : {d : List ℕ} → IsField d → length d ≤ 9 → Numeral d (value_of d)

-- the words of the options, the space behind them with them
pub data PositionWord : List ℕ → Type 0 where
  short_position : PositionWord (spelt "-p ")
  long_position : PositionWord (spelt "--position ")

pub data FormatWord : List ℕ → Type 0 where
  short_format : FormatWord (spelt "-f ")
  long_format : FormatWord (spelt "--format ")

-- a line, and what is left of it behind its options: in any order, each at most once; the format's word has its number behind it
pub data Front : (line rest : List ℕ) → Options → Type 0 where
  no-option : {l : List ℕ} → Front l l (options Length None)
  one_position : {w l : List ℕ} → PositionWord w → Front (w ++ l) l (options Position None)
  one_format : {v d l : List ℕ} {n : ℕ} → FormatWord v → Numeral d n → Front (v ++ (d ++ (32 ∷ l))) l (options Length (Some n))
  position_format : {w v d l : List ℕ} {n : ℕ} → PositionWord w → FormatWord v → Numeral d n
      → Front (w ++ (v ++ (d ++ (32 ∷ l)))) l (options Position (Some n))
  format_position : {v d w l : List ℕ} {n : ℕ} → FormatWord v → Numeral d n → PositionWord w
      → Front (v ++ (d ++ (32 ∷ w ++ l))) l (options Position (Some n))

-- a question: the options, the rate, and behind one space the text, any bytes, perhaps none
pub data Asks : (line : List ℕ) → Way → (text : List ℕ) → Type 0 where
  asks : {line d t : List ℕ} {o : Options} {r : ℕ} → Front line (d ++ (32 ∷ t)) o → Numeral d r → Asks line (way_of o r) t

-- the options and the rate alone: the texts come from elsewhere
pub data AsksTexts : (line : List ℕ) → Way → Type 0 where
  asks_texts : {line d : List ℕ} {o : Options} {r : ℕ} → Front line d o → Numeral d r → AsksTexts line (way_of o r)
