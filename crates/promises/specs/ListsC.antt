-- What C is handed of a shot list: each number of the struct is that of the record, of the refusal, or 0.
-- Assumes nothing.
use Rattle.shot_lists.specs.declared.records.Taken.{Taken}
use Rattle.answers.specs.declared.Refusal.{Refusal}
use Rattle.answers.specs.Causes.{refusal_number}
use Rattle.std.specs.Prelude.{ℕ, ◌≡◌, pos, length, drop, Err, None, Ok, Some, Option, Result}
use Rattle.outcomes.specs.Outcome.{Gives}
use Rattle.shot_lists.specs.declared.records.Record.{Record}
use Rattle.shot_lists.specs.declared.records.Record.TheVariants.{Rate, Shot, Reel}
use Rattle.shot_lists.specs.Grammar.{kind_byte}
use Rattle.shot_lists.specs.Entries.{on_disk, entry_of}
use Rattle.shot_lists.specs.Reading.{Reading, AllOf, FaultOf, read_of}
use Rattle.exports.specs.declared.lists.TzqRecord.{TzqRecord}
use Rattle.exports.specs.declared.lists.TzqChecked.{TzqChecked}
use Rattle.exports.specs.contracts.lists.tzq_record_at as tzq_record_at
use Rattle.exports.proofs.lists.tzq_record_at.Reads as tzq-record-at-reads
use Rattle.exports.specs.contracts.lists.tzq_check_list as tzq_check_list
use Rattle.exports.proofs.lists.tzq_check_list.Reads as tzq-check-list-reads

-- no number that only one kind of record has
pub record NoneOwn (t : TzqRecord) : Type 0 where
  pub rate : t.rate ≡ 0
  pub first : t.first ≡ pos 0
  pub end : t.end ≡ pos 0
  pub reel : t.reel ≡ 0

-- the record's own numbers by name; those of another kind are 0
abbrev pub OwnIn : TzqRecord → Record → Type 0
OwnIn t (Rate n) = (t.rate ≡ n) × (t.first ≡ pos 0) × (t.end ≡ pos 0) × (t.reel ≡ 0)
OwnIn t (Shot first end) = (t.rate ≡ 0) × (t.first ≡ first) × (t.end ≡ end) × (t.reel ≡ 0)
OwnIn t (Reel n) = (t.rate ≡ 0) × (t.first ≡ pos 0) × (t.end ≡ pos 0) × (t.reel ≡ n)

-- no record: its kind and every number but the refusal's is 0
pub record Without (t : TzqRecord) (refused : ℕ) : Type 0 where
  pub number : t.refused ≡ refused
  pub kind : t.kind ≡ 0
  pub none : NoneOwn t
  pub held : t.held ≡ 0
  pub size : t.size ≡ 0

-- a record: not refused, its kind as on disk, its own numbers, the rate held behind it, and how many bytes it has
pub record With (t : TzqRecord) (r : Record) (held size : ℕ) : Type 0 where
  pub number : t.refused ≡ 0
  pub kind : t.kind ≡ kind_byte r
  pub own : OwnIn t r
  pub behind : t.held ≡ held
  pub bytes : t.size ≡ size

-- a record, why there is none, or the end
abbrev pub EntryWhole : TzqRecord → Result (Option Taken) Refusal → Type 0
EntryWhole t (Ok (Some r)) = With t r.found r.held r.size
EntryWhole t (Err e) = Without t (refusal_number e)
EntryWhole t (Ok None) = Without t 0

-- how many records were read; of a refusal its number, and 0
abbrev pub CheckedWhole : TzqChecked → Reading → Type 0
CheckedWhole t (AllOf rs) = (t.refused ≡ 0) × (t.records ≡ length rs)
CheckedWhole t (FaultOf e) = (t.refused ≡ refusal_number e) × (t.records ≡ 0)

-- so it is of whatever the contracts of the two functions for C allow
pub record ListsForC : Type 0 where
  pub record_at : Gives tzq_record_at.ended tzq-record-at-reads.Learnt (λ κs a x. EntryWhole x.0 (entry_of on_disk a.1.1.0 (drop a.1.0 a.0.now)))
  pub check_list : Gives tzq_check_list.ended tzq-check-list-reads.Learnt (λ κs a x. CheckedWhole x.0 (read_of on_disk a.0.now))
