-- `label_writer::label_sections` meets its contract: the fields are those of the label of the magnitude, at the rate.
-- Assumes nothing.
use mathlib.Core.Path.{◌≡◌, ap, ◌∙◌}
use lib.IntN.{pos, nat_abs}
use lib.Signed.{lt_z}
use mir.Syntax.{w64}
use mir.Val.{to_z, of_z}
use borrow.Author.Rules.{rules}
use Rattle.numbers.specs.Sign.{is_neg}
use Rattle.label_writer.proofs.Answers.{sections-made}
use Rattle.label_writer.proofs.label_sections.Goals as goal

pub returns : goal.returns
returns c =
    let back : to_z w64 (of_z w64 c.args.tc.count) ≡ c.args.tc.count = search rules in
    let minus : lt_z (to_z w64 (of_z w64 c.args.tc.count)) (pos 0) ≡ is_neg c.args.tc.count = search rules in
    sections-made c.args.tc _ _ _ c.requires (c.unsigned_abs.ensures.value ∙ ap nat_abs back) minus
    c.sections.ensures
