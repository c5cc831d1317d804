-- The table of commands (docs/ASK.md): each one's word, and a letter for each word behind it.
-- Assumes nothing.
use Rattle.std.specs.Prelude.{ℕ, zero, suc, List, [], ◌∷◌, ◌++◌, Bool, true, false, cond, not, ◌&&◌, eqb, drop, get_or}
use Prim.Native.String.{String}
use Rattle.laws.specs.Spelt.{spelt}
use Rattle.digits.specs.Digits.{is_byte, first_is}

-- ---- words
-- the word that a line begins with: its bytes before the first space
unfoldable pub word_of : List ℕ → List ℕ
word_of [] = []
word_of (b ∷ l) = cond (eqb b 32) [] (b ∷ word_of l)

-- no byte of it is a space
unfoldable pub is_plain : List ℕ → Bool
is_plain [] = true
is_plain (b ∷ l) = not (eqb b 32) && is_plain l

-- the same bytes
unfoldable pub same : (l m : List ℕ) → Bool
same [] [] = true
same [] (b ∷ m) = false
same (a ∷ l) [] = false
same (a ∷ l) (b ∷ m) = eqb a b && same l m

-- the word stands in front
unfoldable pub word_first : (word l : List ℕ) → Bool
word_first [] l = true
word_first (b ∷ w) l = first_is (is_byte b) l && word_first w (drop 1 l)

-- a word is over here: a space stands in front, or nothing is left
unfoldable pub is_over : List ℕ → Bool
is_over [] = true
is_over (b ∷ l) = eqb b 32

-- ---- the rows
-- a command's word, and the letters of the words behind it: `@` the rate of a timecode, which may have the mark, `r` a rate that has no
-- mark, `n` any number, `f` a film format, any number, or `-` where none is stated, `p` a place (from 0 on), `m` a room (0 to 128),
-- `w` a wide room (0 to 1024), `s` a word of shards; last `t` a text, the rest of the line, or `*` a rest that the command takes apart
-- itself
pub record Row : Type 0 where
  pub name : List ℕ
  pub letters : List ℕ

abbrev pub row : (name letters : String) → Row
row name letters = record { name = spelt name; letters = spelt letters }

unfoldable pub rows : List Row
rows =
    row "help" ""
    ∷ row "read" "@t"
    ∷ row "read_as" "n@t"
    ∷ row "read_runtime" "@t"
    ∷ row "label" "@npm"
    ∷ row "footage" "n@npm"
    ∷ row "runtime" "@nnpm"
    ∷ row "count" "@n"
    ∷ row "from_ticks" "@n"
    ∷ row "from_seconds" "@nn"
    ∷ row "minute" "n"
    ∷ row "ticks" "@n"
    ∷ row "seconds" "@n"
    ∷ row "neg" "@n"
    ∷ row "abs" "@n"
    ∷ row "rebase" "@nr"
    ∷ row "add" "@n@n"
    ∷ row "sub" "@n@n"
    ∷ row "cmp" "@n@n"
    ∷ row "mul" "@nnn"
    ∷ row "div" "@nn"
    ∷ row "rem" "@nn"
    ∷ row "divq" "@nnn"
    ∷ row "remq" "@nnn"
    ∷ row "convert" "@n*"
    ∷ row "read_list" "t"
    ∷ row "write_list" "pw*"
    ∷ row "why" "@fpmt"
    ∷ row "route" "rsnt"
    ∷ []

-- how many rows there are
abbrev pub row_count : ℕ
row_count = 29

-- the row of a number, and one of no word for any other number
abbrev pub row_at : ℕ → Row
row_at n = get_or rows n (row "" "")

-- this is the word of the row
abbrev pub is_named : ℕ → (word : List ℕ) → Bool
is_named n word = same word (row_at n).name

-- the number of the first row that has the word, counted from i; as many as there are rows where none has it
unfoldable pub row_from : ℕ → List Row → (word : List ℕ) → ℕ
row_from i [] word = i
row_from i (r ∷ rs) word = cond (same word r.name) i (row_from (suc i) rs word)

abbrev pub row_named : (word : List ℕ) → ℕ
row_named word = row_from 0 rows word

-- the letter of the k-th word behind a command's; a space where there is none
abbrev pub kind_of : (row k : ℕ) → ℕ
kind_of n k = get_or (row_at n).letters k 32

-- ---- the table's bytes: words filled up with spaces to 16 bytes, letters to 8
unfoldable pub filled : ℕ → List ℕ → List ℕ
filled zero l = []
filled (suc n) [] = 32 ∷ filled n []
filled (suc n) (b ∷ l) = b ∷ filled n l

abbrev pub row_bytes : Row → List ℕ
row_bytes r = filled 16 r.name ++ filled 8 r.letters

unfoldable pub bytes_in : List Row → List ℕ
bytes_in [] = []
bytes_in (r ∷ rs) = row_bytes r ++ bytes_in rs

unfoldable pub table_bytes : List ℕ
table_bytes = bytes_in rows
