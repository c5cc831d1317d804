-- A line as its bytes come (BEHAVIOUR: The line program): its first bytes, as many as a buffer holds, and whether there were more.
-- Assumes nothing.
use Rattle.std.specs.Prelude.{ℕ, suc, ◌+◌, List, [], ◌∷◌, Bool, true, false, cond, not, ◌&&◌, length, take, set, ltb, eqb}
use Rattle.streams.specs.declared.gathered.Gathered.{Gathered}
use Rattle.streams.specs.declared.gathered.Step.{Step}

-- ---- what is kept of a line
pub record Kept : Type 0 where
  pub bytes : List ℕ
  pub over : Bool

-- of a whole line, in a buffer of n bytes: its first n, and whether it has more
abbrev pub kept_of : (n : ℕ) (line : List ℕ) → Kept
kept_of n line = record { bytes = take n line; over = ltb n (length line) }

-- what a buffer has of the line that is gathered in it
abbrev pub kept_in : (buffer : List ℕ) → Gathered → Kept
kept_in buffer g = record { bytes = take g.len buffer; over = g.over }

-- ---- byte by byte
-- no byte yet
abbrev pub no_byte : Gathered
no_byte = record { len = 0; over = false }

-- has no byte come?
abbrev pub is_empty : Gathered → Bool
is_empty g = not g.over && eqb g.len 0

-- one byte more, where the buffer has room for it
unfoldable pub more : (room : Bool) → Gathered → Gathered
more true g = record { len = g.len + 1; over = g.over }
more false g = record { len = g.len; over = true }

-- a byte is kept while the buffer has room, else the line has more than it holds
abbrev pub taken : (buffer : List ℕ) → Gathered → Gathered
taken buffer g = more (ltb g.len (length buffer)) g

-- the buffer afterwards: the byte behind those that are kept; past the buffer's end none is set
abbrev pub buffer_taken : (buffer : List ℕ) → Gathered → (b : ℕ) → List ℕ
buffer_taken buffer g b = set buffer g.len b

-- ---- up to the newline
-- byte 10 ends the line, and no other does: a carriage return is a byte as any other
abbrev pub ends_line : ℕ → Bool
ends_line b = eqb b 10

-- the buffer, and the answer: what is gathered, the place past the last byte taken, and whether the line has ended
pub record Gathering : Type 0 where
  pub buffer : List ℕ
  pub step : Step

abbrev pub gathering : (buffer : List ℕ) → Gathered → (next : ℕ) → (ended : Bool) → Gathering
gathering buffer g next ended = record { buffer = buffer; step = record { gathered = g; next = next; ended = ended } }

-- the bytes of l, the first of which stands at place i
unfoldable pub gather_from : (i : ℕ) (buffer : List ℕ) → Gathered → (l : List ℕ) → Gathering
gather_from i buffer g [] = gathering buffer g i false
gather_from i buffer g (b ∷ l) =
    cond (ends_line b)
    (gathering buffer g (suc i) true)
    (gather_from (suc i) (buffer_taken buffer g b) (taken buffer g) l)

-- ---- a whole text
-- what is handed over for a line at the end of the text: a last line without its newline counts, where a byte of it has come
abbrev pub last_handed : (buffer : List ℕ) → Gathered → List Kept
last_handed buffer g = cond (is_empty g) [] (kept_in buffer g ∷ [])

-- what is handed over, line by line, for a text that goes on where g has been gathered
unfoldable pub handed : (buffer : List ℕ) → Gathered → (text : List ℕ) → List Kept
handed buffer g [] = last_handed buffer g
handed buffer g (b ∷ text) =
    cond (ends_line b)
    (kept_in buffer g ∷ handed buffer no_byte text)
    (handed (buffer_taken buffer g b) (taken buffer g) text)
