-- A shot list as it is written (BEHAVIOUR: Shot lists): the bytes of its records one after the other.
-- Assumes nothing.
use Rattle.answers.specs.declared.Refusal.{Refusal}
use Rattle.std.specs.Prelude.{ℕ, List, [], ◌∷◌, ◌++◌, length, ℤ, Result, Ok, Err}
use Rattle.low_bytes.specs.LowBytes.{low_bytes, signed_bytes}
use Rattle.written.specs.Written.{Draft, Text, NoText}
use Rattle.shot_lists.specs.declared.records.Record.{Record}
use Rattle.shot_lists.specs.declared.records.Record.TheVariants.{Rate, Shot, Reel}
use Rattle.shot_lists.specs.Entries.{in_numbers}
use Rattle.shot_lists.specs.Reading.{Reading, AllOf, FaultOf, read_of}

-- a record's bytes: its kind, and its body
unfoldable pub record_bytes : Record → List ℕ
record_bytes (Rate n) = 1 ∷ low_bytes 1 n
record_bytes (Shot first end) = 2 ∷ (signed_bytes 4 first ++ signed_bytes 4 end)
record_bytes (Reel n) = 3 ∷ low_bytes 4 n

-- a list's: one after the other
unfoldable pub list_bytes : List Record → List ℕ
list_bytes [] = []
list_bytes (r ∷ rs) = record_bytes r ++ list_bytes rs

-- what is to be laid down for what was read: the list's bytes, or the refusal of its earliest record at fault
abbrev pub draft_of : Reading → Draft
draft_of (AllOf rs) = Text (list_bytes rs)
draft_of (FaultOf e) = NoText e

-- for a list that is handed over in numbers
abbrev pub list_draft : (given : List ℤ) → Draft
list_draft given = draft_of (read_of in_numbers given)

-- how long it is
abbrev pub measured_of : Reading → Result ℕ Refusal
measured_of (AllOf rs) = Ok (length (list_bytes rs))
measured_of (FaultOf e) = Err e

-- the records that were read; none of a list with a fault
abbrev pub records_in : Reading → List Record
records_in (AllOf rs) = rs
records_in (FaultOf e) = []
