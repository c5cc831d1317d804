-- `chains::step` meets its contract: the timecode moved to the nearest count of its instant and the next rate's ticks.
-- Assumes nothing.
use mathlib.Core.Path.{◌≡◌, ap, ap₂, ◌∙◌}
use Prim.Native.Nat.{ℕ}
use lib.IntN.{ℤ}
use mir.Syntax.{w64}
use mir.Val.{to_z, of_z}
use mir.Facts.{to_z-of_z}
use Rattle.numbers.specs.Nearest.{nearest_z}
use Rattle.answers.specs.Refusals.{held}
use Rattle.rates.specs.declared.Framerate.{Framerate}
use Rattle.rates.specs.Rates.{frame_ticks}
use Rattle.timecodes.specs.Timecode.{moved_to}
use Rattle.timecodes.specs.AdmittedLaws.{moved-held}
use Rattle.timecodes.specs.Instant.{instant}
use Rattle.timecodes.specs.InstantLaws.{instant_in-valid}
use Rattle.chains.specs.Chain.{nearest_frame, step_of}
use Rattle.chains.proofs.step.Goals as goal
use Rattle.chains.proofs.step.Goals.{After-instant_of-ticks, After-nearest_count, After-row-row}

-- what the two operands of the nearest count are
instant-is : (c : After-instant_of-ticks) → to_z w64 (of_z w64 c.instant_of-ticks.result) ≡ instant c.args.tc
instant-is c =
    to_z-of_z {w = w64} (record { sfits = c.instant_of-ticks.type_inv }) ∙ c.instant_of-ticks.ensures ∙ instant_in-valid c.args.tc c.requires

ticks-is : (c : After-row-row) → c.row-row.result.ticks ≡ frame_ticks c.args.next
ticks-is c =
    ap (λ (r : Framerate). r.ticks) c.row-row.ensures

counted_is : (c : After-nearest_count) → c.nearest_count.result ≡ held (nearest_frame c.args.tc c.args.next)
counted_is c =
    c.nearest_count.ensures
    ∙ ap₂ (λ (z : ℤ) (n : ℕ). held (nearest_z z n)) ((to_z-of_z {w = w64} (record { sfits = c.instant_of-ticks.type_inv }) ∙ c.instant_of-ticks.ensures ∙ instant_in-valid c.args.tc c.requires)) ((ap (λ (r : Framerate). r.ticks) c.row-row.ensures))

pub returns : goal.returns
unfolding step_of
returns c =
    c.moved.ensures
    ∙ ap (moved_to c.args.tc c.args.next) (counted_is (goal.at.returns c).After-nearest_count)
    ∙ moved-held c.args.tc c.args.next (nearest_frame c.args.tc c.args.next)
