-- What C is handed of a shot list is the record's numbers: those of the struct that the contract names.
-- Assumes nothing.
use Rattle.shot_lists.specs.declared.records.Taken.{Taken}
use Rattle.answers.specs.declared.Refusal.{Refusal}
use Rattle.std.specs.Prelude.{Err, None, Ok, Some, Option, Result}
use Rattle.answers.specs.Causes.{refusal_number}
use Prim.Native.Nat.{ℕ}
use mathlib.Core.Path.{◌≡◌, refl, sym, subst}
use Rattle.shot_lists.specs.declared.records.Record.{Record}
use Rattle.shot_lists.specs.declared.records.Record.TheVariants.{Rate, Shot, Reel}
use Rattle.exports.specs.declared.lists.TzqRecord.{TzqRecord}
use Rattle.exports.specs.HandedLists.{handed_record, handed_entry}
use Rattle.promises.specs.ListsFieldsC.{RecordFields, EntryFields, ListsFieldsForC}
use Rattle.promises.proofs.ListsC.{without_is}

with-is : (r : Record) (held size : ℕ) → RecordFields (handed_record r held size) r held size
unfolding handed_record
with-is (Rate n) held size = record { number = refl; own = (refl, refl, refl, refl, refl); behind = refl; bytes = refl }
with-is (Shot first end) held size = record { number = refl; own = (refl, refl, refl, refl, refl); behind = refl; bytes = refl }
with-is (Reel n) held size = record { number = refl; own = (refl, refl, refl, refl, refl); behind = refl; bytes = refl }

entry-is : (a : Result (Option Taken) Refusal) → EntryFields (handed_entry a) a
unfolding handed_entry
entry-is (Ok (Some t)) = with-is t.found t.held t.size
entry-is (Err e) = without_is (refusal_number e)
entry-is (Ok None) = without_is 0

entry_whole : (t : TzqRecord) (a : Result (Option Taken) Refusal) → t ≡ handed_entry a → EntryFields t a
entry_whole t a e = subst (λ (x : TzqRecord). EntryFields x a) (sym e) (entry-is a)

pub lists_fields_for_c : ListsFieldsForC
lists_fields_for_c = record { record_at = λ κs a x p. entry_whole x.0 _ p }
