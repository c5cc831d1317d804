-- What C is handed of a shot list: each number of the struct is that of the record, of the refusal, or 0.
-- Assumes nothing.
use Rattle.shot_lists.specs.declared.records.Taken.{Taken}
use Rattle.answers.specs.declared.Refusal.{Refusal}
use Rattle.answers.specs.Causes.{refusal_number}
use Rattle.std.specs.Prelude.{ℕ, ◌≡◌, pos, drop, Err, None, Ok, Some, Option, Result}
use Rattle.outcomes.specs.Outcome.{Gives}
use Rattle.shot_lists.specs.declared.records.Record.{Record}
use Rattle.shot_lists.specs.declared.records.Record.TheVariants.{Rate, Shot, Reel}
use Rattle.shot_lists.specs.Entries.{on_disk, entry_of}
use Rattle.exports.specs.declared.lists.TzqRecord.{TzqRecord}
use Rattle.exports.specs.contracts.lists.tzq_record_at as tzq_record_at
use Rattle.exports.proofs.lists.tzq_record_at.Reads as tzq-record-at-reads
use Rattle.promises.specs.ListsC.{Without}

-- kind 1 a rate, 2 a shot, 3 a reel, and the record's own numbers by name; those of another kind are 0
abbrev pub OwnFields : TzqRecord → Record → Type 0
OwnFields t (Rate n) = (t.kind ≡ 1) × (t.rate ≡ n) × (t.first ≡ pos 0) × (t.end ≡ pos 0) × (t.reel ≡ 0)
OwnFields t (Shot first end) = (t.kind ≡ 2) × (t.rate ≡ 0) × (t.first ≡ first) × (t.end ≡ end) × (t.reel ≡ 0)
OwnFields t (Reel n) = (t.kind ≡ 3) × (t.rate ≡ 0) × (t.first ≡ pos 0) × (t.end ≡ pos 0) × (t.reel ≡ n)

-- a record: not refused, its kind and its own numbers, the rate held behind it, and how many bytes it has
pub record RecordFields (t : TzqRecord) (r : Record) (held size : ℕ) : Type 0 where
  pub number : t.refused ≡ 0
  pub own : OwnFields t r
  pub behind : t.held ≡ held
  pub bytes : t.size ≡ size

-- a record, why there is none, or the end
abbrev pub EntryFields : TzqRecord → Result (Option Taken) Refusal → Type 0
EntryFields t (Ok (Some r)) = RecordFields t r.found r.held r.size
EntryFields t (Err e) = Without t (refusal_number e)
EntryFields t (Ok None) = Without t 0

-- so it is of whatever the contract of `tzq_record_at` allows
pub record ListsFieldsForC : Type 0 where
  pub record_at : Gives tzq_record_at.ended tzq-record-at-reads.Learnt (λ κs a x. EntryFields x.0 (entry_of on_disk a.1.1.0 (drop a.1.0 a.0.now)))
