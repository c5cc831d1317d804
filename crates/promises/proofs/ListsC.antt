-- What C is handed of a shot list is the record's numbers: those of the struct that the contract names.
-- Assumes nothing.
use Rattle.shot_lists.specs.declared.records.Taken.{Taken}
use Rattle.answers.specs.declared.Refusal.{Refusal}
use Rattle.std.specs.Prelude.{Err, None, Ok, Some, Option, Result}
use Rattle.answers.specs.Causes.{refusal_number}
use Prim.Native.Nat.{ℕ}
use mathlib.Core.Path.{◌≡◌, refl, sym, subst}
use Rattle.shot_lists.specs.declared.records.Record.{Record}
use Rattle.shot_lists.specs.declared.records.Record.TheVariants.{Rate, Shot, Reel}
use Rattle.shot_lists.specs.Entries.{on_disk}
use Rattle.shot_lists.specs.Reading.{Reading, AllOf, FaultOf, checked_of, read_of}
use Rattle.exports.specs.declared.lists.TzqRecord.{TzqRecord}
use Rattle.exports.specs.declared.lists.TzqChecked.{TzqChecked}
use Rattle.exports.specs.HandedLists.{record_of_kind, handed_record, handed_entry, handed_checked}
use Rattle.promises.specs.ListsC.{With, Without, EntryWhole, CheckedWhole, ListsForC}

with-is : (r : Record) (held size : ℕ) → With (handed_record r held size) r held size
unfolding handed_record
with-is (Rate n) held size = record { number = refl; kind = refl; own = (refl, refl, refl, refl); behind = refl; bytes = refl }
with-is (Shot first end) held size = record { number = refl; kind = refl; own = (refl, refl, refl, refl); behind = refl; bytes = refl }
with-is (Reel n) held size = record { number = refl; kind = refl; own = (refl, refl, refl, refl); behind = refl; bytes = refl }

pub without_is : (refused : ℕ) → Without (record_of_kind refused 0) refused
unfolding record_of_kind
without_is refused =
    record { number = refl; kind = refl; none = record { rate = refl; first = refl; end = refl; reel = refl }; held = refl; size = refl }

entry-is : (a : Result (Option Taken) Refusal) → EntryWhole (handed_entry a) a
unfolding handed_entry
entry-is (Ok (Some t)) = with-is t.found t.held t.size
entry-is (Err e) = without_is (refusal_number e)
entry-is (Ok None) = without_is 0

checked-is : (t : Reading) → CheckedWhole (handed_checked (checked_of t)) t
unfolding handed_checked
checked-is (AllOf rs) = (refl, refl)
checked-is (FaultOf e) = (refl, refl)

entry_whole : (t : TzqRecord) (a : Result (Option Taken) Refusal) → t ≡ handed_entry a → EntryWhole t a
entry_whole t a e = subst (λ (x : TzqRecord). EntryWhole x a) (sym e) (entry-is a)

checked-whole : (t : TzqChecked) (r : Reading) → t ≡ handed_checked (checked_of r) → CheckedWhole t r
checked-whole t r e = subst (λ (x : TzqChecked). CheckedWhole x r) (sym e) (checked-is r)

pub lists_for_c : ListsForC
lists_for_c = record { record_at = λ κs a x p. entry_whole x.0 _ p; check_list = λ κs a x p. checked-whole x.0 (read_of on_disk a.0.now) p }
