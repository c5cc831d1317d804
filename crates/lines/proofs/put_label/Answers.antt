-- `lines::put_label` meets its contract: the space, lent the rest of the part, stands right behind the label.
-- Assumes nothing.
use mathlib.Core.Path.{◌∙◌}
use mathlib.Core.List.{[], ◌∷◌}
use Rattle.lent.proofs.Laws.{laid-lent}
use Rattle.label_writer.specs.LabelText.{frames_mark, sections_text}
use Rattle.label_writer.proofs.Answers.{sections-same}
use Rattle.lines.proofs.put_label.Goals as goal

pub returns : goal.returns
returns c =
    laid-lent c.args.part.now _ _ (sections_text (frames_mark c.args.rate) c.args.s) (32 ∷ []) _
    c.put_sections.ensures
    (c.sections_length-at.ensures ∙ sections-same (frames_mark c.args.rate) c.args.s)
    c.requires
    c.put_byte.ensures
