-- `showing::put_help` meets its contract: the constant is the text, by computation.
-- Assumes nothing.
use Rattle.showing.specs.Shown.{help_text}
use Rattle.showing.proofs.put_help.Goals as goal

pub returns : goal.returns
unfolding help_text
returns g c = c.put_text.ensures
