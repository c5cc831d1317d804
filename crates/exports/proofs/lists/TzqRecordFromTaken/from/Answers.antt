-- `exports::TzqRecord::from` of a record meets its contract: its kind and its own numbers, over those of no record.
-- Assumes nothing.
use Prim.Native.Nat.{ℕ}
use mathlib.Core.Path.{◌≡◌, sym, ap, ap₂, ◌∙◌}
use lib.IntN.{ℤ}
use mir.Syntax.{w64}
use mir.Val.{to_z, of_z}
use Rattle.shot_lists.specs.declared.records.Record.{Record}
use Rattle.exports.specs.declared.lists.TzqRecord.{TzqRecord}
use Rattle.exports.specs.HandedLists.{record_of_kind, handed_record}
use borrow.Author.Rules.{rules}
use Rattle.exports.proofs.Defaults.{no-record}
use Rattle.exports.proofs.lists.TzqRecordFromTaken.from.Goals as goal

-- a record's numbers, the signed ones apart, over those that it does not have
abbrev over : TzqRecord → (kind rate : ℕ) → (first end : ℤ) → (reel held size : ℕ) → TzqRecord
over n kind rate first end reel held size =
    record { refused = n.refused; kind = kind; rate = rate; first = first; end = end; reel = reel; held = held; size = size }

pub returns-in-Rate : goal.returns-in-Rate
unfolding handed_record record_of_kind
returns-in-Rate c =
    let first : to_z w64 (of_z w64 (to_z w64 (of_z w64 c.default.result.first))) ≡ c.default.result.first = search rules in
    let end : to_z w64 (of_z w64 (to_z w64 (of_z w64 c.default.result.end))) ≡ c.default.result.end = search rules in
    ap₂ (λ (x y : ℤ). over c.default.result 1 c.in-Rate.rate x y c.default.result.reel c.args.taken.held c.args.taken.size) first end
    ∙ ap (λ (n : TzqRecord). over n 1 c.in-Rate.rate n.first n.end n.reel c.args.taken.held c.args.taken.size) (no-record c.default.result c.default.ensures)
    ∙ sym (ap (λ (r : Record). handed_record r c.args.taken.held c.args.taken.size) c.in-Rate.is)

pub returns-in-Shot : goal.returns-in-Shot
unfolding handed_record record_of_kind
returns-in-Shot c =
    let first : to_z w64 (of_z w64 c.in-Shot.first) ≡ c.in-Shot.first = search rules in
    let end : to_z w64 (of_z w64 c.in-Shot.end) ≡ c.in-Shot.end = search rules in
    ap₂ (λ (x y : ℤ). over c.default.result 2 c.default.result.rate x y c.default.result.reel c.args.taken.held c.args.taken.size) first end
    ∙ ap (λ (n : TzqRecord). over n 2 n.rate c.in-Shot.first c.in-Shot.end n.reel c.args.taken.held c.args.taken.size) (no-record c.default.result c.default.ensures)
    ∙ sym (ap (λ (r : Record). handed_record r c.args.taken.held c.args.taken.size) c.in-Shot.is)

pub returns-in-Reel : goal.returns-in-Reel
unfolding handed_record record_of_kind
returns-in-Reel c =
    let first : to_z w64 (of_z w64 (to_z w64 (of_z w64 c.default.result.first))) ≡ c.default.result.first = search rules in
    let end : to_z w64 (of_z w64 (to_z w64 (of_z w64 c.default.result.end))) ≡ c.default.result.end = search rules in
    ap₂ (λ (x y : ℤ). over c.default.result 3 c.default.result.rate x y c.in-Reel.reel c.args.taken.held c.args.taken.size) first end
    ∙ ap (λ (n : TzqRecord). over n 3 n.rate n.first n.end c.in-Reel.reel c.args.taken.held c.args.taken.size) (no-record c.default.result c.default.ensures)
    ∙ sym (ap (λ (r : Record). handed_record r c.args.taken.held c.args.taken.size) c.in-Reel.is)
