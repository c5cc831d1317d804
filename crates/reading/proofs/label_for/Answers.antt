-- `reading::label_for` meets its contract: a label that is none of the kind is refused, and any other is read as that of a length, then settled.
-- Assumes nothing.
use Rattle.std.specs.Prelude.{Err}
use Rattle.std.specs.Prelude.{None}
use Rattle.std.proofs.lemmas.Bool.{not_from_false, not_from_true}
use mathlib.Core.Path.{sym, ◌∙◌, ap}
use Rattle.numbers.proofs.Tests.{fails, passes}
use Rattle.reading.specs.For.{settled_read}
use Rattle.reading.specs.ForLaws.{label-not-of, label_of}
use Rattle.reading.proofs.label_for.Goals as goal

pub returns-then-not-is_label_of : goal.returns-then-not-is_label_of
returns-then-not-is_label_of c =
    ap Err c.into.ensures
    ∙ (sym (label-not-of c.args.kind c.args.rate None c.args.minus c.args.fields (fails c.is_label_of.ensures (not_from_false _ c.if-not-is_label_of.true))))

pub read_label-requires : goal.read_label-requires
read_label-requires c =
    c.requires

pub returns : goal.returns
returns c =
    c.settled.ensures
    ∙ ap (settled_read c.args.kind) c.read_label.ensures
    ∙ sym (label_of c.args.kind c.args.rate None c.args.minus c.args.fields (passes c.is_label_of.ensures (not_from_true _ c.if-not-is_label_of.false)))
