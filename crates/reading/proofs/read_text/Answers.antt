-- `reading::read_text` meets its contract: a text reads as what it was taken for does.
-- Assumes nothing.
use mathlib.Core.Path.{sym, ap, ◌∙◌}
use Rattle.reading.specs.Taken.{shaped_in}
use Rattle.reading.specs.For.{read_by}
use Rattle.reading.proofs.TakenLaws.{read-by-taken}
use Rattle.reading.proofs.read_text.Goals as goal

pub returns : goal.returns
returns c =
    c.read_taken.ensures
    ∙ ap (λ t. read_by c.args.kind c.args.stated c.args.rate (shaped_in t)) c.take_text.ensures
    ∙ sym (read-by-taken c.args.kind c.args.text.now c.args.stated c.args.rate)
