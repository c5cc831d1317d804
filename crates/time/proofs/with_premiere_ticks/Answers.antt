-- `time::with_premiere_ticks` meets its contract: it asks for the nearest count at the rate's row, and makes that of its kind.
-- Assumes nothing.
use Rattle.std.specs.Prelude.{Ok, Err}
use Rattle.std.proofs.lemmas.Result.{err_from_is_err_and}
use Prim.Native.Nat.{ℕ}
use mathlib.Core.Path.{◌≡◌, sym, ◌∙◌, ap, ap₂}
use borrow.Author.Rules.{rules}
use lib.IntN.{ℤ}
use mir.Facts.{to_z-of_z}
use mir.Syntax.{w64}
use mir.Val.{to_z, of_z}
use Rattle.numbers.specs.Nearest.{nearest_z}
use Rattle.answers.specs.Refusals.{held}
use Rattle.rates.specs.declared.Framerate.{Framerate}
use Rattle.timecodes.specs.Made.{made}
use Rattle.time.specs.Frames.{ticks_frame}
use Rattle.time.proofs.Steps.{row-told, row-refused, ticks-out, ticks-in}
use Rattle.time.proofs.with_premiere_ticks.Goals as goal
use Rattle.time.proofs.with_premiere_ticks.Goals.{After-nearest_count}

pub returns-in_err-row : goal.returns-in_err-row
returns-in_err-row c =
    let told = row-refused c.args.rate _ (sym c.framerate_at.ensures ∙ c.in_err-row.was) in
    let p = err_from_is_err_and c.from_residual.result c.from_residual.ensures.1 in
    p.1 ∙ ap Err (p.2 ∙ told.1) ∙ ticks-out c.args.kind c.args.rate c.args.ticks told.0

-- what was counted is the nearest frame
counted : (c : After-nearest_count) → held (ticks_frame c.args.ticks c.args.rate) ≡ c.nearest_count.result
counted c =
    let row = row-told c.args.rate c.in_ok-row.row (sym c.framerate_at.ensures ∙ c.in_ok-row.was) in
    sym
    (c.nearest_count.ensures
    ∙ ap₂ (λ (z : ℤ) (n : ℕ). held (nearest_z z n)) (to_z-of_z c.ranges.ticks) (ap (λ (r : Framerate). r.ticks) row.1))

pub returns-in_err-nearest : goal.returns-in_err-nearest
returns-in_err-nearest c =
    let row = row-told c.args.rate c.in_ok-row.row (sym c.framerate_at.ensures ∙ c.in_ok-row.was) in
    let p = err_from_is_err_and c.from_residual-in_err-nearest.result c.from_residual-in_err-nearest.ensures.1 in
    p.1 ∙ ap Err p.2
    ∙ ticks-in c.args.kind c.args.rate c.args.ticks (Err _) row.0 (counted (goal.at.returns-in_err-nearest c).After-nearest_count ∙ c.in_err-nearest.was)

pub returns : goal.returns
returns c =
    let row = row-told c.args.rate c.in_ok-row.row (sym c.framerate_at.ensures ∙ c.in_ok-row.was) in
    let back : to_z w64 (of_z w64 c.in_ok-nearest.nearest) ≡ c.in_ok-nearest.nearest = search rules in
    ap Ok (c.made.ensures ∙ ap (λ (z : ℤ). made c.args.kind z c.args.rate) back)
    ∙ ticks-in c.args.kind c.args.rate c.args.ticks (Ok c.in_ok-nearest.nearest) row.0 (counted (goal.at.returns c).After-nearest_count ∙ c.in_ok-nearest.was)
