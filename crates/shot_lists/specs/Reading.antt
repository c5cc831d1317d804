-- A whole list (BEHAVIOUR: Shot lists): its records in order, or the refusal of the earliest record at fault.
-- Assumes nothing.
use Rattle.shot_lists.specs.declared.records.Taken.{Taken}
use Rattle.answers.specs.Causes.{refusal_number}
use Rattle.std.specs.Prelude.{ℕ, zero, suc, ◌-◌, List, [], ◌∷◌, Bool, true, false, length, Some, None, Result, Ok, Err, Option}
use Rattle.answers.specs.declared.Refusal.{Refusal}
use Rattle.shot_lists.specs.declared.records.Record.{Record}
use Rattle.shot_lists.specs.Entries.{Layout, entry_of}

-- what a list gives: all of its records, or the refusal of the earliest one at fault
pub data Reading : Type 0 where
  AllOf : List Record → Reading
  FaultOf : Refusal → Reading

-- a record, and then what the rest of the list gives: a fault behind it is the list's
abbrev pub and_then : Record → Reading → Reading
and_then r (AllOf rs) = AllOf (r ∷ rs)
and_then r (FaultOf e) = FaultOf e

-- by what stands at the front: the record and what is read behind it, its refusal, or no record at all
abbrev pub onward : Result (Option Taken) Refusal → (ℕ → ℕ → Reading) → Reading
onward (Ok (Some t)) later = and_then t.found (later t.held t.size)
onward (Ok None) later = AllOf []
onward (Err e) later = FaultOf e

-- the record at the front, and the records behind it; `skip` elements that belong to the record before are passed over
unfoldable pub read_from : {A : Type 0} → Layout A → (skip held : ℕ) → List A → Reading
read_from f skip held [] = AllOf []
read_from f (suc skip) held (x ∷ l) = read_from f skip held l
read_from f zero held (x ∷ l) = onward (entry_of f held (x ∷ l)) (λ after size. read_from f (size - 1) after l)

-- from the first element on; no rate is held yet
abbrev pub read_of : {A : Type 0} → Layout A → List A → Reading
read_of f l = read_from f 0 0 l

-- has the list no record at fault?
abbrev pub is_faultless : Reading → Bool
is_faultless (AllOf rs) = true
is_faultless (FaultOf e) = false

-- how many records, or the refusal
abbrev pub checked_of : Reading → Result ℕ Refusal
checked_of (AllOf rs) = Ok (length rs)
checked_of (FaultOf e) = Err e

-- the number of an entry's refusal; 0: not refused
abbrev pub number_in : Result (Option Taken) Refusal → ℕ
number_in (Ok found) = 0
number_in (Err e) = refusal_number e

-- and its place
abbrev pub place_in : Result (Option Taken) Refusal → ℕ
place_in (Ok found) = 0
place_in (Err e) = e.place
