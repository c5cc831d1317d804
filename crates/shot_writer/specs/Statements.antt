-- What holds of writing a shot list (BEHAVIOUR: Shot lists), for lists of any length: what is refused; that what is written is in the format, what is
-- written and read again has the same records, what is read and written again has the same bytes. Proofs: proofs/Statements.antt.
-- Assumes nothing.
use Rattle.std.specs.Prelude.{ℕ, ◌+◌, ◌<◌, ◌≡◌, ◌↔◌, List, length, take, drop, ℤ, Ok, Err}
use Rattle.answers.specs.declared.Refusal.{Refusal}
use Rattle.answers.specs.Refusals.{no_room}
use Rattle.low_bytes.specs.LowBytes.{Bytes}
use Rattle.written.specs.Written.{Text, answer_to, line_to}
use Rattle.shot_lists.specs.declared.records.Record.{Record}
use Rattle.shot_lists.specs.Grammar.{OnDisk, list_numbers}
use Rattle.shot_lists.specs.Entries.{on_disk, in_numbers}
use Rattle.shot_lists.specs.Reading.{AllOf, FaultOf, read_of}
use Rattle.shot_writer.specs.ListText.{list_bytes, list_draft}

-- a list with a record at fault is refused what that record is refused, whatever the line and the place: 8 comes last
abbrev pub ListRefused : Type 0
ListRefused =
    (given : List ℤ) (line : List ℕ) (place : ℕ) (e : Refusal) → read_of in_numbers given ≡ FaultOf e → answer_to line place (list_draft given) ≡ Err e

-- any other is refused 8 exactly when place plus its length exceeds the line's length
abbrev pub RoomRefused : Type 0
RoomRefused =
    (given : List ℤ) (rs : List Record) (line : List ℕ) (place : ℕ) → read_of in_numbers given ≡ AllOf rs
    → (answer_to line place (list_draft given) ≡ Err no_room) ↔ (length line < place + length (list_bytes rs))

-- what is written for these records is their bytes in the format
abbrev pub BytesOnDisk : Type 0
BytesOnDisk =
    (given : List ℤ) (rs : List Record) (l : List ℕ) → read_of in_numbers given ≡ AllOf rs → list_draft given ≡ Text l → OnDisk rs l

-- what is written and read again has the same records: the bytes that now stand in the line are read as what was handed over
abbrev pub WrittenThenRead : Type 0
WrittenThenRead =
    (given : List ℤ) (line : List ℕ) (place n : ℕ) → answer_to line place (list_draft given) ≡ Ok n
    → read_of on_disk (take n (drop place (line_to line place (list_draft given)))) ≡ read_of in_numbers given

-- what is read and written again has the same bytes
abbrev pub ReadThenWritten : Type 0
ReadThenWritten =
    (l : List ℕ) (rs : List Record) → Bytes l → read_of on_disk l ≡ AllOf rs → list_draft (list_numbers rs) ≡ Text l
