-- `telling::answered::put_other` meets its contract: the line, and what is said of it behind it.
-- Assumes nothing.
use mathlib.Core.Path.{◌∙◌}
use Rattle.telling.proofs.Cases.{other-put}
use Rattle.telling.proofs.answered.put_other.Goals as goal

pub returns : goal.returns
returns g c = c.put_text.ensures ∙ other-put c.args.line.now (g.P.Page.seen c.args.sheet.now) _ c.put_shown.ensures
