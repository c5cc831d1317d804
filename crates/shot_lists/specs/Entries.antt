-- The record at a place, given the rate held (BEHAVIOUR: Shot lists): one definition, for a list on disk and for one that is handed over in numbers.
-- Assumes nothing.
use Rattle.std.specs.Prelude.{ℕ, suc, List, [], ◌∷◌, cond, eqb, ltb, ℤ, pos, length, take, drop, get_or, Option, Some, None, Result, Ok, Err}
use Rattle.answers.specs.declared.Refusal.{Refusal}
use Rattle.answers.specs.Order.{Condition, when, unless}
use Rattle.answers.specs.Refusals.{no_such_kind, cut_short}
use Rattle.numbers.specs.Sign.{up_from}
use Rattle.low_bytes.specs.LowBytes.{worth, signed_of}
use Rattle.shot_lists.specs.declared.records.Record.{Record}
use Rattle.shot_lists.specs.declared.records.Record.TheVariants.{Rate, Shot, Reel}
use Rattle.shot_lists.specs.declared.records.RecordKind.{RecordKind}
use Rattle.shot_lists.specs.declared.records.RecordKind.TheVariants as kind
use Rattle.shot_lists.specs.declared.records.Taken.{Taken}
use Rattle.shot_lists.specs.Records.{held_after, faults}

-- a record that is taken: the rate that is held behind it, and how far it goes
abbrev pub taken : Record → (held size : ℕ) → Result (Option Taken) Refusal
taken r held size = Ok (Some (record { found = r; held = held; size = size }))

-- the list is over
abbrev pub over : Result (Option Taken) Refusal
over = Ok None

-- the numbers of the kinds
abbrev pub kind_number : RecordKind → ℕ
kind_number kind.Rate = 1
kind_number kind.Shot = 2
kind_number kind.Reel = 3

-- the kind of a number. 9: there is no such kind
unfoldable pub kind_of : ℕ → Result RecordKind Refusal
kind_of n = cond (eqb n 1) (Ok kind.Rate) (cond (eqb n 2) (Ok kind.Shot) (cond (eqb n 3) (Ok kind.Reel) (Err no_such_kind)))

-- how records stand one after the other: an element that says the kind, and a body whose length the kind fixes
pub record Layout (A : Type 0) : Type 0 where
  pub kind : A → ℕ
  pub body : ℕ → ℕ  -- 0: there is no such kind
  pub made : ℕ → List A → Record  -- of a kind, by the body and what stands behind it

-- the length of the body, by kind: of a rate, a shot, a reel
unfoldable pub body_fixed : (rate shot reel kind : ℕ) → ℕ
body_fixed rate shot reel kind = cond (eqb kind 1) rate (cond (eqb kind 2) shot (cond (eqb kind 3) reel 0))

-- the record of a kind
unfoldable pub of_kind : ℕ → (rate shot reel : Record) → Record
of_kind kind rate shot reel = cond (eqb kind 1) rate (cond (eqb kind 2) shot reel)

-- on disk: bytes, 1 for a rate, 8 for a shot, 4 for a reel
abbrev pub on_disk : Layout ℕ
on_disk = record {
  kind = λ b. b;
  body = body_fixed 1 8 4;
  made = λ k l. of_kind k (Rate (worth (take 1 l))) (Shot (signed_of 4 (worth (take 4 l))) (signed_of 4 (worth (take 4 (drop 4 l))))) (Reel (worth (take 4 l)));
}

-- handed over: numbers, one for a rate, two for a shot, one for a reel
abbrev pub in_numbers : Layout ℤ
in_numbers = record {
  kind = up_from;
  body = body_fixed 1 2 1;
  made = λ k l. of_kind k (Rate (up_from (get_or l 0 (pos 0)))) (Shot (get_or l 0 (pos 0)) (get_or l 1 (pos 0))) (Reel (up_from (get_or l 0 (pos 0))));
}

-- all that speaks against the record that begins with this element: 9 unknown kind, 10 body cut short, then what speaks against its numbers
abbrev pub against : {A : Type 0} → Layout A → (held : ℕ) (x : A) (l : List A) → List Condition
against f held x l =
    let k = f.kind x in
    when no_such_kind (eqb (f.body k) 0) ∷ when cut_short (ltb (length l) (f.body k)) ∷ faults held (f.made k l)

-- a record that is there: taken with the rate that is held behind it and how far it goes, unless something speaks against its numbers
unfoldable pub ruled : (held : ℕ) → Record → (size : ℕ) → Result (Option Taken) Refusal
ruled held r size = unless Err (faults held r) (taken r (held_after held r) size)

-- the record at the front of a list, given the rate held
unfoldable pub entry_of : {A : Type 0} → Layout A → (held : ℕ) → List A → Result (Option Taken) Refusal
entry_of f held [] = over
entry_of f held (x ∷ l) =
    unless Err (against f held x l) (taken (f.made (f.kind x) l) (held_after held (f.made (f.kind x) l)) (suc (f.body (f.kind x))))
