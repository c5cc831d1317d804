-- `reading::read_label` meets its contract: a dropped label is refused, and any other has its count at the rate.
-- Assumes nothing.
use Rattle.std.specs.Prelude.{Err}
use Prim.Native.Nat.{ℕ}
use mathlib.Core.Path.{◌≡◌, sym, ap, ◌∙◌}
use Rattle.rates.specs.Rates.{drop_frames}
use Rattle.labels.specs.Label.{dropped_in}
use Rattle.labels.specs.AtRate.{label_counted-in}
use Rattle.reading.specs.Answer.{as_label}
use Rattle.reading.specs.ReadingLaws.{label-dropped}
use Rattle.reading.proofs.ByShape.{label_kept}
use Rattle.reading.proofs.read_label.Goals as goal
use Rattle.reading.proofs.read_label.Goals.{After-is_dropped}

-- what the test told is of the rate's own D
told : (c : After-is_dropped) → c.is_dropped.result ≡ dropped_in (drop_frames c.args.rate) c.args.fields
told c =
    c.is_dropped.ensures ∙ ap (λ (d : ℕ). dropped_in d c.args.fields) c.drop_frames_per_minute-d.ensures

pub returns-then-is_dropped : goal.returns-then-is_dropped
returns-then-is_dropped c =
    ap Err c.into.ensures
    ∙ (sym (label-dropped c.args.rate c.args.minus c.args.fields (sym (told (goal.at.returns-then-is_dropped c).After-is_dropped) ∙ c.if-is_dropped.true)))

pub returns : goal.returns
returns c =
    c.as_label.ensures
    ∙ ap (as_label c.args.rate) (c.label_count.ensures ∙ label_counted-in c.args.rate c.args.minus c.args.fields c.requires)
    ∙ sym (label_kept c.args.rate c.args.minus c.args.fields (sym (told (goal.at.returns c).After-is_dropped) ∙ c.if-is_dropped.false))
