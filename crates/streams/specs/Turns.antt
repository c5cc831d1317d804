-- What is gathered of the next line as the bytes of a chunk come (BEHAVIOUR: The line program): nothing yet where a line has ended.
-- Assumes nothing.
use Rattle.std.specs.Prelude.{ℕ, List, [], ◌∷◌, cond}
use Rattle.streams.specs.declared.gathered.Gathered.{Gathered}
use Rattle.streams.specs.declared.gathered.Step.{Step}
use Rattle.streams.specs.Gathering.{no_byte, taken, buffer_taken, ends_line}

-- the buffer, and what is gathered in it
pub record Waiting : Type 0 where
  pub buffer : List ℕ
  pub gathered : Gathered

abbrev pub waiting : (buffer : List ℕ) → Gathered → Waiting
waiting buffer g = record { buffer = buffer; gathered = g }

-- byte by byte: a newline ends the line, and the next has no byte yet; any other byte is one more of the line
unfoldable pub waiting_behind : (buffer : List ℕ) → Gathered → (chunk : List ℕ) → Waiting
waiting_behind buffer g [] = waiting buffer g
waiting_behind buffer g (b ∷ l) = cond (ends_line b) (waiting_behind buffer no_byte l) (waiting_behind (buffer_taken buffer g b) (taken buffer g) l)

-- behind a step of `gather`
abbrev pub gone_on : Step → Gathered
gone_on s = cond s.ended no_byte s.gathered
