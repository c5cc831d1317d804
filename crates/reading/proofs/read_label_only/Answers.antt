-- `reading::read_label_only` meets its contract: a text reads as what it was taken for does.
-- Assumes nothing.
use Rattle.std.specs.Prelude.{None}
use mathlib.Core.Path.{sym, ap, ◌∙◌}
use Rattle.reading.specs.Taken.{shaped_in}
use Rattle.reading.specs.For.{read_by}
use Rattle.reading.proofs.TakenLaws.{label-by-taken}
use Rattle.reading.proofs.read_label_only.Goals as goal

pub returns : goal.returns
returns c =
    c.read_taken.ensures
    ∙ ap (λ t. read_by c.args.kind None c.args.rate (shaped_in t)) c.take_label.ensures
    ∙ sym (label-by-taken c.args.kind c.args.text.now c.args.rate)
