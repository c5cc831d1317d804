-- The length of a label's text: that of its sections, whichever the mark.
-- Assumes nothing.
use mathlib.Core.Path.{◌∙◌}
use Rattle.label_writer.specs.LabelText.{frames_mark}
use Rattle.label_writer.proofs.Answers.{sections-same}
use Rattle.label_writer.proofs.LabelWritable.length.Goals as goal

pub returns : goal.returns
returns c =
    c.sections_length.ensures ∙ sections-same (frames_mark c.args.self.now.rate) c.args.self.now.sections
