-- `lines::columns_held` meets its contract: a timecode that a line holds is admitted, so its sections are never refused.
-- Assumes nothing.
use Rattle.std.specs.Prelude.{Ok}
use mathlib.Core.Path.{◌≡◌, sym, ap, subst, ◌∙◌}
use Rattle.timecodes.specs.Admitted.{Valid}
use Rattle.label_writer.specs.Sections.{label_sections}
use Rattle.lines.specs.Input.{line_of}
use Rattle.lines.specs.Output.{columns_of, columns_held}
use Rattle.lines.proofs.Texts.{sections-there, sections-never}
use Rattle.lines.proofs.Held.{Sound, line-sound}
use Rattle.lines.proofs.columns_held.Goals as goal
use Rattle.lines.proofs.columns_held.Goals.{In_ok-tc}

line : (c : In_ok-tc) → line_of c.args.input.now ≡ Ok c.in_ok-tc.tc
line c =
    sym c.read_line.ensures ∙ c.in_ok-tc.was

valid : (c : In_ok-tc) → Valid c.in_ok-tc.tc
valid c =
    subst Sound (line c) (line-sound c.args.input.now)

pub returns-in_err-sections : goal.returns-in_err-sections
returns-in_err-sections c =
    let first = (goal.at.returns-in_err-sections c).In_ok-tc in
    absurd (sections-never _ (valid first) _ (sym c.sections.ensures ∙ c.in_err-sections.was))

pub returns : goal.returns
returns c =
    let first = (goal.at.returns c).In_ok-tc in
    let tc = c.in_ok-tc.tc in
    let there = sections-there tc (valid first) in
    let was = sym c.sections.ensures ∙ c.in_ok-sections.was in
    let same : c.in_ok-sections.sections ≡ label_sections tc.rate tc.count = cc in
    ap Ok c.columns_of.ensures ∙ ap (λ s. Ok (columns_of tc s)) same ∙ ap columns_held (sym (line first))
