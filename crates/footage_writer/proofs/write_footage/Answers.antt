-- `footage_writer::write_footage` meets its contract: past every refusal the footage of the timecode's count is laid down.
-- Assumes nothing.
use mathlib.Core.Path.{◌≡◌, sym, ap, ap₂, ◌∙◌}
use lib.IntN.{pos, nat_abs}
use lib.Signed.{lt_z}
use mir.Syntax.{w64}
use mir.Val.{to_z, of_z}
use borrow.Author.Rules.{rules}
use Rattle.numbers.specs.Sign.{is_neg}
use Rattle.answers.specs.OrderLaws.{judged-clear}
use Rattle.timecodes.specs.Admitted.{admits}
use Rattle.timecodes.specs.AdmittedLaws.{admits-valid, valid-count-le}
use Rattle.film.specs.Footage.{footage_in, footage_in-in}
use Rattle.written.specs.Written.{Text}
use Rattle.written.proofs.Laws.{meets-same, meets-passed}
use Rattle.footage_writer.specs.FootageText.{feet_text, footage_text, footage_draft}
use Rattle.footage_writer.proofs.Laws.{draft-in}
use Rattle.footage_writer.proofs.write_footage.Goals as goal

pub returns : goal.returns
unfolding footage_text
returns c =
    let format = c.in_ok-format.format in
    let count = c.args.tc.count in
    let passed = sym c.in_ok-admit.ensures in
    let few = footage_in-in format (nat_abs count) (valid-count-le c.args.tc (admits-valid c.args.tc (judged-clear (admits c.args.tc) passed))) in
    let back : to_z w64 (of_z w64 count) ≡ count = search rules in
    let minus : lt_z (to_z w64 (of_z w64 count)) (pos 0) ≡ is_neg count = search rules in
    let footage = c.feet_and_frames.ensures ∙ ap (footage_in format) (c.unsigned_abs.ensures.value ∙ ap nat_abs back) ∙ few in
    let same = ap₂ (λ m f. Text (feet_text m format f)) minus footage in
    meets-same c.args.line.now c.args.place (footage_draft c.args.tc c.args.format) _ _ _ (draft-in c.args.tc c.args.format _ (sym c.in_ok-format.ensures))
    (meets-passed c.args.line.now c.args.place (admits c.args.tc) (footage_text format count) _ _ passed
    (meets-same c.args.line.now c.args.place _ _ _ _ same c.write.ensures))
