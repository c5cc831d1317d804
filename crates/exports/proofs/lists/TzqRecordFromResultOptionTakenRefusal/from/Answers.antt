-- `exports::TzqRecord::from` of an answer meets its contract: the record, its refusal, or the end.
-- Assumes nothing.
use Rattle.std.specs.Prelude.{Ok}
use Prim.Native.Nat.{ℕ}
use mir.Syntax.{w64}
use mir.Val.{to_z, of_z}
use mathlib.Core.Path.{sym, ap, ap₂, ◌∙◌}
use Rattle.exports.specs.declared.lists.TzqRecord.{TzqRecord}
use Rattle.exports.specs.HandedLists.{record_of_kind, handed_entry}
use Rattle.exports.proofs.Defaults.{no-record}
use Rattle.exports.proofs.lists.TzqRecordFromResultOptionTakenRefusal.from.Goals as goal

pub returns-in-Ok-Some : goal.returns-in-Ok-Some
unfolding handed_entry
returns-in-Ok-Some c =
    let inner = rw c.in-Ok-Some.is at c.in-Ok-Some.field-0-is in
    c.into.ensures ∙ sym (ap handed_entry (c.in-Ok-Some.is ∙ ap Ok inner))

pub returns-in-Ok-None : goal.returns-in-Ok-None
unfolding handed_entry record_of_kind
returns-in-Ok-None c =
    let inner = rw c.in-Ok-None.is at c.in-Ok-None.field-0-is in
    (no-record c.default.result c.default.ensures) ∙ sym (ap handed_entry (c.in-Ok-None.is ∙ ap Ok inner))

-- the numbers of no record, and why
abbrev over : TzqRecord → (refused : ℕ) → TzqRecord
over n refused =
    record { refused = refused; kind = n.kind; rate = n.rate; first = to_z w64 (of_z w64 n.first); end = to_z w64 (of_z w64 n.end); reel = n.reel; held = n.held; size = n.size }

pub returns-in-Err : goal.returns-in-Err
unfolding handed_entry record_of_kind
returns-in-Err c =
    ap₂ (λ (n : TzqRecord) (k : ℕ). over n k) (no-record c.default-in-Err.result c.default-in-Err.ensures) c.number_of.ensures ∙ sym (ap handed_entry c.in-Err.is)
