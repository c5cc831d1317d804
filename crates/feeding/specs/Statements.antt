-- What is written for an input, whatever its chunks (BEHAVIOUR: The line program): the answers to its lines. Proofs: proofs/Statements.antt.
-- Assumes nothing.
use Rattle.std.specs.Prelude.{ℕ, ◌+◌, ◌*◌, ◌≤◌, ◌<◌, ◌≡◌, ◌⊎◌, List, [], ◌++◌, length, take}
use Rattle.lines.specs.Output.{answer_text}
use Rattle.streams.specs.declared.gathered.Gathered.{Gathered}
use Rattle.streams.specs.Lines.{Lines}
use Rattle.streams.specs.Parting.{each}
use Rattle.streams.specs.Gathering.{no_byte}
use Rattle.streams.specs.Sheet.{text_on}
use Rattle.feeding.specs.Feeding.{After, fed_of, finished}

-- what is written where the input comes in any chunks, and the buffer, the sheet and what is gathered go on from each to the next; bytes
-- of a chunk that were not taken come again with the next one
pub data Writes : (buffer out : List ℕ) → Gathered → (input text : List ℕ) → Type 0 where
  ends : (buffer out : List ℕ) (g : Gathered) → Writes buffer out g [] (text_on (finished buffer out g))
  goes : (buffer out : List ℕ) (g : Gathered) (chunk input text : List ℕ) (e : After) → e ≡ fed_of buffer out g chunk
      → Writes e.machine.buffer e.machine.sheet.bytes e.machine.gathered input text
      → Writes buffer out g (take e.eaten chunk ++ input) (text_on e.machine.sheet ++ text)

-- the whole: the answers to the lines of the input, in their order, and nothing else; 65 bytes are enough of a line, and 47 for an answer
abbrev pub Answered : Type 0
Answered =
    (buffer out input text : List ℕ) (ls : List (List ℕ)) → 65 ≤ length buffer → 47 ≤ length out
    → Lines input ls → Writes buffer out no_byte input text → text ≡ each answer_text ls

-- a chunk of at most a 47th of the sheet is taken whole
abbrev pub TakenWhole : Type 0
TakenWhole = (buffer out : List ℕ) (g : Gathered) (chunk : List ℕ) → 47 * length chunk ≤ length out → (fed_of buffer out g chunk).eaten ≡ length chunk

-- of any chunk all is taken, or the sheet has no room for the longest answer: nothing is lost, and nothing is held back for long
abbrev pub StoppedFull : Type 0
StoppedFull =
    (buffer out : List ℕ) (g : Gathered) (chunk : List ℕ)
    → let e = fed_of buffer out g chunk in
    (e.eaten ≡ length chunk) ⊎ (length out < e.machine.sheet.used + 47)
