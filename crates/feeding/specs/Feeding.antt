-- A chunk of input through a buffer for the line and a sheet for the answers (BEHAVIOUR: The line program): what the code keeps.
-- Assumes nothing.
use Rattle.std.specs.Prelude.{ℕ, suc, List, [], ◌∷◌, Bool, true, false, cond, length, take, drop}
use Rattle.lent.specs.Line.{has_room}
use Rattle.lines.specs.Output.{answer_text}
use Rattle.streams.specs.declared.gathered.Gathered.{Gathered}
use Rattle.streams.specs.Gathering.{no_byte, is_empty, taken, buffer_taken, ends_line, Gathering, gather_from}
use Rattle.streams.specs.Sheet.{Sheet, sheet, put_on}
use Rattle.feeding.specs.declared.Fed.{Fed}

-- the answer to what is kept of a line, behind what the sheet has
unfoldable pub answered : (buffer : List ℕ) → Gathered → Sheet → Sheet
answered buffer g s = put_on s (answer_text (take g.len buffer))

-- all that changes from byte to byte
pub record Machine : Type 0 where
  pub buffer : List ℕ
  pub gathered : Gathered
  pub sheet : Sheet

abbrev pub machine : (buffer : List ℕ) → Gathered → Sheet → Machine
machine buffer g s = record { buffer = buffer; gathered = g; sheet = s }

-- a newline: the line is answered, and the next begins; any other byte is one more of the line
unfoldable pub next : Machine → (b : ℕ) → Machine
next m b =
    cond (ends_line b)
    (machine m.buffer no_byte (answered m.buffer m.gathered m.sheet))
    (machine (buffer_taken m.buffer m.gathered b) (taken m.buffer m.gathered) m.sheet)

-- room for the longest answer
abbrev pub goes_on : (total used : ℕ) → Bool
goes_on total used = has_room total used 47

-- the machine after a part of a chunk, and how many bytes were taken
pub record After : Type 0 where
  pub machine : Machine
  pub eaten : ℕ

abbrev pub taken_to : Machine → ℕ → After
taken_to m i = record { machine = m; eaten = i }

-- i bytes were taken before; it stops where the sheet has no room for the longest answer
unfoldable pub fed_from : (i : ℕ) → Machine → List ℕ → After
fed_from i m [] = taken_to m i
fed_from i m (b ∷ l) = cond (goes_on (length m.sheet.bytes) m.sheet.used) (fed_from (suc i) (next m b) l) (taken_to m i)

-- a chunk, onto an empty sheet
abbrev pub begun : (buffer out : List ℕ) → Gathered → Machine
begun buffer out g = machine buffer g (sheet out 0)

abbrev pub fed_of : (buffer out : List ℕ) → Gathered → (chunk : List ℕ) → After
fed_of buffer out g chunk = fed_from 0 (begun buffer out g) chunk

-- as the code has it: what is answered, and beside it the buffer and the sheet
abbrev pub fed_answer : After → Fed
fed_answer e = record { gathered = e.machine.gathered; eaten = e.eaten }

abbrev pub fed_at : (buffer : List ℕ) → Sheet → Fed → After
fed_at buffer s f = taken_to (machine buffer f.gathered s) f.eaten

-- the bytes up to the next newline at once, and the answer to the line that ends there
abbrev pub line_ended : Bool → Gathering → Sheet → Machine
line_ended true e s = machine e.buffer no_byte (answered e.buffer e.step.gathered s)
line_ended false e s = machine e.buffer e.step.gathered s

unfoldable pub stepped : (chunk : List ℕ) → After → After
stepped chunk f =
    let m = f.machine in
    let e = gather_from f.eaten m.buffer m.gathered (drop f.eaten chunk) in
    taken_to (line_ended e.step.ended e m.sheet) e.step.next

-- the end of the input: a last line without its newline counts, where a byte of it has come
unfoldable pub finished : (buffer out : List ℕ) → Gathered → Sheet
finished buffer out g = cond (is_empty g) (sheet out 0) (answered buffer g (sheet out 0))
