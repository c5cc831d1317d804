-- What holds of reading a shot list (BEHAVIOUR: Shot lists): by the grammar, both ways; one way only; and record by record. Proofs: proofs/Statements.antt,
-- Bodies.antt, Numbers.antt and OneWay.antt.
-- Assumes nothing.
use Rattle.std.specs.Prelude.{ℕ, ◌≡◌, ◌↔◌, List, [], ◌∷◌, ◌++◌, ℤ, length, drop}
use Rattle.answers.specs.declared.Refusal.{Refusal}
use Rattle.answers.specs.Causes.{refusal_number}
use Rattle.answers.specs.Order.{first}
use Rattle.low_bytes.specs.LowBytes.{Bytes}
use Rattle.shot_lists.specs.declared.records.Record.{Record}
use Rattle.std.specs.Prelude.{Err}
use Rattle.shot_lists.specs.Records.{Sound, held_behind}
use Rattle.shot_lists.specs.Grammar.{kind_byte, BodyOf, OnDisk, list_numbers}
use Rattle.shot_lists.specs.Entries.{Layout, on_disk, in_numbers, against, entry_of, taken, over}
use Rattle.shot_lists.specs.Reading.{AllOf, FaultOf, and_then, read_from, read_of, number_in}

-- a body has the length that its kind fixes
abbrev pub KindFixes : Type 0
KindFixes = (r : Record) (body : List ℕ) → BodyOf r body → length body ≡ on_disk.body (kind_byte r)

-- bytes are read as these records exactly when they are their bytes, and nothing speaks against any of them
abbrev pub ReadExactly : Type 0
ReadExactly = (l : List ℕ) (rs : List Record) → Bytes l → (read_of on_disk l ≡ AllOf rs) ↔ (OnDisk rs l × Sound 0 rs)

-- the earliest record at fault: records that nothing speaks against stand before it, and this is the refusal of the record there
pub record Earliest {A : Type 0} (f : Layout A) (Listed : List Record → List A → Type 0) (l : List A) (e : Refusal) : Type 0 where
  pub before : List Record
  pub front : List A
  pub rest : List A
  pub parts : l ≡ front ++ rest
  pub good : Listed before front
  pub sound : Sound 0 before
  pub fault : entry_of f (held_behind 0 before) rest ≡ Err e

-- a list is refused exactly what its earliest record at fault is refused
abbrev pub RefusedExactly : Type 0
RefusedExactly = (l : List ℕ) (e : Refusal) → Bytes l → (read_of on_disk l ≡ FaultOf e) ↔ Earliest on_disk OnDisk l e

-- numbers are taken as these records exactly when they are each one's kind and own numbers, and nothing speaks against any of them
abbrev pub GivenExactly : Type 0
GivenExactly = (given : List ℤ) (rs : List Record) → (read_of in_numbers given ≡ AllOf rs) ↔ ((given ≡ list_numbers rs) × Sound 0 rs)

-- and are refused exactly what the earliest record at fault is refused
abbrev pub GivenRefused : Type 0
GivenRefused =
    (given : List ℤ) (e : Refusal)
    → (read_of in_numbers given ≡ FaultOf e) ↔ Earliest in_numbers (λ rs l. l ≡ list_numbers rs) given e

-- a record is refused what speaks against it first: 9, 10, 6 and 5 on its numbers, 11, 12; in every layout
abbrev pub EntryWhen : Type 1
EntryWhen = (A : Type 0) (f : Layout A) (held : ℕ) (x : A) (l : List A) → number_in (entry_of f held (x ∷ l)) ≡ first (against f held x l)

-- the reader never gives 8, and its refusals have no place in a text
abbrev pub NeverEight : Type 1
NeverEight = (A : Type 0) (f : Layout A) (l : List A) (e : Refusal) → read_of f l ≡ FaultOf e → ((refusal_number e) ≡ 8 → ⊥) × (e.place ≡ 0)

-- no bytes are two lists, and what is read is the one list that they are
pub record OneList : Type 0 where
  pub bytes : (l : List ℕ) (rs ss : List Record) → OnDisk rs l → OnDisk ss l → rs ≡ ss
  pub read : (l : List ℕ) (rs ss : List Record) → Bytes l → read_of on_disk l ≡ AllOf rs → OnDisk ss l → rs ≡ ss

-- and no list has two forms in bytes
abbrev pub OneBytes : Type 0
OneBytes = (rs : List Record) (l m : List ℕ) → OnDisk rs l → OnDisk rs m → l ≡ m

-- record by record, given the rate held: the record at a place, then those behind it; a refusal is the list's; at the end there is none
pub record RecordByRecord : Type 0 where
  pub taken :
      (held : ℕ) (l : List ℕ) (r : Record) (after size : ℕ) → entry_of on_disk held l ≡ taken r after size
      → read_from on_disk 0 held l ≡ and_then r (read_from on_disk 0 after (drop size l))
  pub refused : (held : ℕ) (l : List ℕ) (e : Refusal) → entry_of on_disk held l ≡ Err e → read_from on_disk 0 held l ≡ FaultOf e
  pub over : (held : ℕ) (l : List ℕ) → (entry_of on_disk held l ≡ over) ↔ (l ≡ [])
