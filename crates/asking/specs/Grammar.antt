-- What a line of the calculator is made of (docs/ASK.md), as a grammar: no reader stands in it.
-- Assumes nothing.
use Rattle.std.specs.Prelude.{ℕ, ◌+◌, ◌<◌, ◌≡◌, List, [], ◌∷◌, ◌++◌, true, false, ℤ, pos, length}
use Rattle.numbers.specs.Sign.{signed}
use Rattle.digits.specs.Digits.{IsField, value_of, digit_first}
use Rattle.asking.specs.declared.words.Value.{Value}
use Rattle.asking.specs.Numbers.{is_within}
use Rattle.laws.specs.Spelt.{spelt}
use Rattle.asking.specs.Table.{is_over, row_count, row_at}
use Rattle.asking.specs.Asked.{value, is_in_range, is_shards, is_last}

-- a number: an optional `-` and one or more digits, within 64 bits signed; zeros in front are fine
pub data Numeral : List ℕ → ℤ → Type 0 where
  plain : {d : List ℕ} → IsField d → is_within false (value_of d) ≡ true → Numeral d (signed false (value_of d))
  minus : {d : List ℕ} → IsField d → is_within true (value_of d) ≡ true → Numeral (45 ∷ d) (signed true (value_of d))

-- ranges joined by `,`, each two numbers with `-` between them: their first numbers, and their ends
pub data RangesText : (text : List ℕ) → (firsts ends : List ℤ) → Type 0 where
  last_range : {d e : List ℕ} {y z : ℤ} → Numeral d y → Numeral e z → RangesText (d ++ (45 ∷ e)) (y ∷ []) (z ∷ [])
  more_ranges : {d e u : List ℕ} {y z : ℤ} {ys zs : List ℤ}
      → Numeral d y → Numeral e z → RangesText u ys zs → RangesText (d ++ (45 ∷ e ++ (44 ∷ u))) (y ∷ ys) (z ∷ zs)

-- a word of shards: `-` for none, else ranges
pub data ShardsText : (word : List ℕ) → (firsts ends : List ℤ) → Type 0 where
  no_shards : ShardsText (45 ∷ []) [] []
  some_shards : {w : List ℕ} {ys zs : List ℤ} → RangesText w ys zs → ShardsText w ys zs

-- what stands behind a command's word, from a place of the line on, by the letters of its row: the numbers and their marks, and the rest
-- that a text or a list is
pub data Behind : (at : ℕ) → (letters text : List ℕ) → (values : List Value) → (rest : List ℕ) → Type 0 where
  -- nothing
  ended : {at : ℕ} → Behind at [] [] [] []
  -- a text is the rest of the line behind one space, any bytes; where the line ends, it is empty
  no_text : {at : ℕ} → Behind at (116 ∷ []) [] [] []
  text : {at : ℕ} {t : List ℕ} → Behind at (116 ∷ []) (32 ∷ t) [] t
  -- a rest that the command takes apart itself
  own : {at : ℕ} {t : List ℕ} → Behind at (42 ∷ []) t [] t
  -- a number behind one space, allowed by its letter; no digit behind it
  number : {at kind : ℕ} {letters d l : List ℕ} {z : ℤ} {vs : List Value} {r : List ℕ}
      → is_last kind ≡ false → is_shards kind ≡ false → Numeral d z → is_in_range kind z ≡ true → digit_first l ≡ false
      → Behind (at + 1 + length d) letters l vs r → Behind at (kind ∷ letters) (32 ∷ d ++ l) (value z false ∷ vs) r
  -- the rate of a timecode behind one space and the mark `@`, which says that the timecode is a position; no digit behind it
  marked : {at : ℕ} {letters d l : List ℕ} {z : ℤ} {vs : List Value} {r : List ℕ}
      → Numeral d z → digit_first l ≡ false → Behind (at + 2 + length d) letters l vs r
      → Behind at (64 ∷ letters) (32 ∷ 64 ∷ d ++ l) (value z true ∷ vs) r
  -- a film format's `-` behind one space, for none stated; a space or the line's end behind it
  unstated : {at : ℕ} {letters l : List ℕ} {vs : List Value} {r : List ℕ}
      → is_over l ≡ true → Behind (at + 2) letters l vs r → Behind at (102 ∷ letters) (32 ∷ 45 ∷ l) (value (pos 0) true ∷ vs) r
  -- a word of shards behind one space, its value the place where it begins; a space or the line's end behind it
  shards : {at : ℕ} {letters w l : List ℕ} {ys zs : List ℤ} {vs : List Value} {r : List ℕ}
      → ShardsText w ys zs → is_over l ≡ true → Behind (at + 1 + length w) letters l vs r
      → Behind at (115 ∷ letters) (32 ∷ w ++ l) (value (pos (at + 1)) false ∷ vs) r

-- a line: the word of a row, and what stands behind it
pub data Asks : (line : List ℕ) → (row : ℕ) → (values : List Value) → (rest : List ℕ) → Type 0 where
  asks : {n : ℕ} {t r : List ℕ} {vs : List Value}
      → n < row_count → Behind (length (row_at n).name) (row_at n).letters t vs r → Asks ((row_at n).name ++ t) n vs r

-- the records of a shot list in words, each word and number behind one space, and what is listed of them: each one's kind and numbers
pub data RecordWords : (text : List ℕ) → (numbers : List ℤ) → Type 0 where
  none : RecordWords [] []
  rate : {d l : List ℕ} {z : ℤ} {zs : List ℤ} → Numeral d z → RecordWords l zs → RecordWords (spelt " rate " ++ d ++ l) (pos 1 ∷ z ∷ zs)
  shot : {d e l : List ℕ} {y z : ℤ} {zs : List ℤ}
      → Numeral d y → Numeral e z → RecordWords l zs → RecordWords (spelt " shot " ++ d ++ (32 ∷ e ++ l)) (pos 2 ∷ y ∷ z ∷ zs)
  reel : {d l : List ℕ} {z : ℤ} {zs : List ℤ} → Numeral d z → RecordWords l zs → RecordWords (spelt " reel " ++ d ++ l) (pos 3 ∷ z ∷ zs)
