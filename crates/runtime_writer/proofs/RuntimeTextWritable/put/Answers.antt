-- A runtime's text is put down: the fraction, lent the rest of the part, stands right behind its seconds.
-- Assumes nothing.
use mathlib.Core.List.{◌∷◌}
use Rattle.lent.proofs.Laws.{laid-lent}
use Rattle.digits.specs.Digits.{digits_of}
use Rattle.runtime_writer.specs.RuntimeText.{seconds_text}
use Rattle.runtime_writer.proofs.RuntimeTextWritable.put.Goals as goal

pub returns : goal.returns
returns c =
    let t = c.args.self.now in
    laid-lent c.args.part.now _ _ (seconds_text t.negative t.seconds) (46 ∷ digits_of t.tail.width t.tail.value) _
    c.put_clock.ensures
    c.clock_length-at.ensures
    c.requires
    c.put_marked.ensures
