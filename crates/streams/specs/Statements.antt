-- What holds of lines and chunks (BEHAVIOUR: The line program). Proofs: proofs/Statements.antt.
-- Assumes nothing.
use Rattle.std.specs.Prelude.{ℕ, ◌≡◌, List, ◌++◌, map, length}
use Rattle.streams.specs.Lines.{Lines}
use Rattle.streams.specs.Parting.{behind, parted, parted_by, together, lines_of}
use Rattle.streams.specs.Gathering.{no_byte, kept_of, handed}

-- a text in two chunks: the second goes on where the first left off
abbrev pub TwoChunks : Type 0
TwoChunks = (held a b : List ℕ) → parted held (a ++ b) ≡ behind (parted held a).done (parted (parted held a).rest b)

-- in any chunks, of any size, also empty ones: only the text matters
abbrev pub AnyChunks : Type 0
AnyChunks = (held : List ℕ) (chunks : List (List ℕ)) → parted_by held chunks ≡ parted held (together chunks)

-- the fold finds the lines of the grammar, and no others
abbrev pub FoldFinds : Type 0
FoldFinds = (text : List ℕ) → Lines text (lines_of text)

-- and a text has no other lines
abbrev pub OneReading : Type 0
OneReading = (text : List ℕ) (ls : List (List ℕ)) → Lines text ls → lines_of text ≡ ls

-- the lines that are handed over are those of the text: of each its first bytes, as many as the buffer holds, and whether it has more.
-- A newline ends a line, and nothing else does; a last line without one counts
abbrev pub LinesHanded : Type 0
LinesHanded =
    (buffer text : List ℕ) (ls : List (List ℕ)) → Lines text ls
    → handed buffer no_byte text ≡ map (kept_of (length buffer)) ls
