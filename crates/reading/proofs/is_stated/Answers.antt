-- `reading::is_stated` meets its contract: a number has a film format where it is answered one.
-- Assumes nothing.
use Rattle.std.specs.Prelude.{is_ok}
use mathlib.Core.Path.{sym, ap, ◌∙◌}
use Rattle.reading.specs.Shaped.{is_stated}
use Rattle.reading.proofs.Filmed.{answered-format}
use Rattle.reading.proofs.is_stated.Goals as goal

pub returns-in-Some : goal.returns-in-Some
returns-in-Some c =
    c.is_ok.ensures.value ∙ ap is_ok c.format_at.ensures ∙ answered-format c.in-Some.n ∙ sym (ap is_stated c.in-Some.is)
