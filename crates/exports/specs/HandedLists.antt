-- What is handed to C of a shot list (BEHAVIOUR: Shot lists): a record's numbers by name, and how many records there are.
-- Assumes nothing.
use Rattle.shot_lists.specs.declared.records.Taken.{Taken}
use Rattle.answers.specs.Causes.{refusal_number}
use Rattle.answers.specs.declared.Refusal.{Refusal}
use Rattle.std.specs.Prelude.{ℕ, pos, Result, Ok, Err, None, Some, Option}
use Rattle.shot_lists.specs.declared.records.Record.{Record}
use Rattle.shot_lists.specs.declared.records.Record.TheVariants.{Rate, Shot, Reel}
use Rattle.exports.specs.declared.lists.TzqRecord.{TzqRecord}
use Rattle.exports.specs.declared.lists.TzqChecked.{TzqChecked}

-- a refusal's number and a kind; every other number is 0
unfoldable pub record_of_kind : (refused kind : ℕ) → TzqRecord
record_of_kind refused kind =
    record { refused = refused; kind = kind; rate = 0; first = pos 0; end = pos 0; reel = 0; held = 0; size = 0 }

-- a record's kind and its own numbers, the rate held behind it, and how many bytes it has
unfoldable pub handed_record : Record → (held size : ℕ) → TzqRecord
handed_record (Rate n) held size =
    record { refused = 0; kind = 1; rate = n; first = pos 0; end = pos 0; reel = 0; held = held; size = size }
handed_record (Shot first end) held size =
    record { refused = 0; kind = 2; rate = 0; first = first; end = end; reel = 0; held = held; size = size }
handed_record (Reel n) held size =
    record { refused = 0; kind = 3; rate = 0; first = pos 0; end = pos 0; reel = n; held = held; size = size }

-- no record where it is refused, and none at the end
unfoldable pub handed_entry : Result (Option Taken) Refusal → TzqRecord
handed_entry (Ok (Some t)) = handed_record t.found t.held t.size
handed_entry (Err e) = record_of_kind (refusal_number e) 0
handed_entry (Ok None) = record_of_kind 0 0

-- how many records; of a refusal 0
unfoldable pub handed_checked : Result ℕ Refusal → TzqChecked
handed_checked (Ok n) = record { refused = 0; records = n }
handed_checked (Err e) = record { refused = refusal_number e; records = 0 }
