-- A line is understood as the grammar has it, and only so. Proofs: proofs/Statements.antt.
-- Assumes nothing.
use Rattle.std.specs.Prelude.{ℕ, ◌+◌, ◌<◌, ◌≡◌, List, [], ◌∷◌, map, true, false, cond, eqb, pos, negsuc, length, set}
use Rattle.laws.specs.Spelt.{spelt}
use Rattle.asking.specs.declared.words.Value.{Value}
use Rattle.asking.specs.declared.words.Asked.{Asked}
use Rattle.asking.specs.Table.{Row, rows, row_count}
use Rattle.asking.specs.Asked.{asked, value, no_value, no_values, asked_of}
use Rattle.asking.specs.Numbered.{numbers_of}
use Rattle.asking.specs.ShardWords.{shards_of}
use Rattle.asking.specs.Grammar.{Asks}

-- elements in their places of a list from the k-th on
unfoldable pub placed_from : {A : Type 0} → (k : ℕ) (values zs : List A) → List A
placed_from k values [] = values
placed_from k values (z ∷ zs) = placed_from (k + 1) (set values k z) zs

-- a line that the grammar has is understood: as its row, its numbers and their marks with zeros behind them, and where its rest begins
abbrev pub Understood : Type 0
Understood =
    (line : List ℕ) (n : ℕ) (vs : List Value) (rest : List ℕ) (begins : ℕ) → Asks line n vs rest → begins + length rest ≡ length line
    → asked_of line ≡ asked n (placed_from 0 no_values vs) begins

-- a line of the grammar, with what is asked of it
pub record IsAsked (line : List ℕ) (a : Asked) : Type 0 where
  pub numbers : List Value
  pub rest : List ℕ
  pub asks : Asks line a.row numbers rest
  pub values : a.values ≡ placed_from 0 no_values numbers
  pub begins : a.rest + length rest ≡ length line

-- and what is understood is a line that the grammar has
abbrev pub OnlyUnderstood : Type 0
OnlyUnderstood = (line : List ℕ) → (asked_of line).row < row_count → IsAsked line (asked_of line)

-- which of a row's words may have the mark, counted from 0
unfoldable pub marks_from : (k : ℕ) (letters : List ℕ) → List ℕ
marks_from k [] = []
marks_from k (letter ∷ letters) = cond (eqb letter 64) (k ∷ marks_from (k + 1) letters) (marks_from (k + 1) letters)

abbrev pub marks_of : Row → List ℕ
marks_of r = marks_from 0 r.letters

-- the mark belongs before the first RATE of each command that takes or makes a timecode, and before the second of `add`, `sub` and `cmp`: by
-- row, from `help` on to the last; not before the target of `rebase`
abbrev pub MarksBelong : Type 0
MarksBelong =
    (length rows ≡ row_count)
    × (map marks_of rows
    ≡ []  -- help
    ∷ (0 ∷ []) ∷ (1 ∷ []) ∷ (0 ∷ [])  -- read, read_as, read_runtime
    ∷ (0 ∷ []) ∷ (1 ∷ []) ∷ (0 ∷ [])  -- label, footage, runtime
    ∷ (0 ∷ []) ∷ (0 ∷ []) ∷ (0 ∷ [])  -- count, from_ticks, from_seconds
    ∷ []  -- minute
    ∷ (0 ∷ []) ∷ (0 ∷ [])  -- ticks, seconds
    ∷ (0 ∷ []) ∷ (0 ∷ []) ∷ (0 ∷ [])  -- neg, abs, rebase
    ∷ (0 ∷ 2 ∷ []) ∷ (0 ∷ 2 ∷ []) ∷ (0 ∷ 2 ∷ [])  -- add, sub, cmp
    ∷ (0 ∷ []) ∷ (0 ∷ []) ∷ (0 ∷ []) ∷ (0 ∷ []) ∷ (0 ∷ [])  -- mul, div, rem, divq, remq
    ∷ (0 ∷ [])  -- convert
    ∷ [] ∷ []  -- read_list, write_list
    ∷ (0 ∷ [])  -- why
    ∷ []  -- route
    ∷ [])

-- `why` in plain bytes: the mark of its rate, `-` for no film format, its place and room, and where its text begins; a room of 129 is not
-- understood
pub record WhyAsked : Type 0 where
  pub unstated :
      asked_of (spelt "why @5 - 2 10 x")
      ≡ asked 27 (value (pos 5) true ∷ value (pos 0) true ∷ value (pos 2) false ∷ value (pos 10) false ∷ no_value ∷ []) 14
  pub stated :
      asked_of (spelt "why 5 4 0 128 1+00")
      ≡ asked 27 (value (pos 5) false ∷ value (pos 4) false ∷ value (pos 0) false ∷ value (pos 128) false ∷ no_value ∷ []) 14
  pub wide : (asked_of (spelt "why 5 - 0 129 x")).row ≡ row_count
  pub taken :
      let n = numbers_of (value (pos 5) true ∷ value (pos 0) true ∷ value (pos 2) false ∷ value (pos 10) false ∷ no_value ∷ []) in
      (n.up1 ≡ 5) × (n.at1 ≡ true) × (n.at2 ≡ true) × (n.up3 ≡ 2) × (n.up4 ≡ 10)

-- `route` in plain bytes: its rate, the place of its shards, its length and where its text begins, and the shards listed; a range that is not
-- whole, a `,` with no range behind it, or a mark is not understood
pub record RouteAsked : Type 0 where
  pub ranges :
      asked_of (spelt "route 5 0-100,100-250 -9 01:00")
      ≡ asked 28 (value (pos 5) false ∷ value (pos 8) false ∷ value (negsuc 8) false ∷ no_value ∷ no_value ∷ []) 25
  pub none : asked_of (spelt "route 5 - 250") ≡ asked 28 (value (pos 5) false ∷ value (pos 8) false ∷ value (pos 250) false ∷ no_value ∷ no_value ∷ []) 13
  pub trailing : (asked_of (spelt "route 5 0-100, 250 x")).row ≡ row_count
  pub half : (asked_of (spelt "route 5 0-100,5- 250 x")).row ≡ row_count
  pub marked : (asked_of (spelt "route @5 - 250 x")).row ≡ row_count
  pub taken :
      let n = numbers_of (value (pos 5) false ∷ value (pos 8) false ∷ value (negsuc 8) false ∷ no_value ∷ no_value ∷ []) in
      (n.up1 ≡ 5) × (n.up2 ≡ 8) × (n.n3 ≡ negsuc 8)
  pub listed :
      shards_of (spelt "route 5 -5-10,5--3 9") 8 (0 ∷ 0 ∷ 7 ∷ []) (0 ∷ 0 ∷ [])
      ≡ record { firsts = 18446744073709551615 ∷ 5 ∷ 7 ∷ []; ends = 10 ∷ 18446744073709551615 ∷ []; listed = record { all = true; count = 2 } }
