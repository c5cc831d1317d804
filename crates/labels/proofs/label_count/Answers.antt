-- `labels::label_count` meets its contract: the exact count is held to the bounds, and what stands for a longer one is above them as that is.
-- Assumes nothing.
use Rattle.std.specs.Prelude.{Err}
use Rattle.std.proofs.lemmas.Bool.{not_from_false, not_from_true}
use mathlib.Core.Path.{◌≡◌, refl, sym, ◌∙◌, ap}
use mathlib.Core.Bool.{Bool, true, false}
use mathlib.Core.List.{List}
use Prim.Native.Nat.{ℕ}
use native.Mathlib.Omega.{arith}
use Rattle.numbers.specs.Sign.{signed}
use Rattle.numbers.proofs.Tests.{fails, passes}
use Rattle.answers.specs.Refusals.{beyond, held}
use Rattle.answers.specs.Laws.{held-past}
use Rattle.rates.specs.Rates.{is_rate, rate_row, drop_frames}
use Rattle.rates.proofs.Sound.{drop-small}
use Rattle.labels.specs.Label.{count_in, is_short}
use Rattle.labels.proofs.ByMinutes.{is_short-out}
use Rattle.labels.specs.AtRate.{label_frames, frames_or, frames_or-in, frames_or-long, label_counted-in, label_counted-out}
use Rattle.labels.proofs.label_count.Goals as goal

pub returns-then-not-is_rate : goal.returns-then-not-is_rate
returns-then-not-is_rate c =
    ap Err c.into.ensures
    ∙ (sym (label_counted-out _ _ _ (fails c.is_rate.ensures (not_from_false _ c.if-not-is_rate.true))))

-- what is answered is held as the count is
held_same : (rate : ℕ) (minus : Bool) (fields : List ℕ) → is_rate rate ≡ true
    → held (signed minus (frames_or rate fields)) ≡ held (label_frames rate minus fields)
held_same rate minus fields e = by (is_short fields) refl
  where
    by : (t : Bool) → is_short fields ≡ t → held (signed minus (frames_or rate fields)) ≡ held (label_frames rate minus fields)
    by true f = ap (λ (m : ℕ). held (signed minus m)) (frames_or-in rate fields e f)
    by false f =
        ap (λ (m : ℕ). held (signed minus m)) (frames_or-long rate fields e f)
        ∙ held-past minus beyond (omega arith)
        ∙ sym (held-past minus (count_in (rate_row rate).timebase (drop_frames rate) fields) (is_short-out _ _ fields (drop-small rate e) f))

pub returns : goal.returns
returns c =
    let e = passes c.is_rate.ensures (not_from_true _ c.if-not-is_rate.false) in
    c.held.ensures
    ∙ ap (λ (m : ℕ). held (signed c.args.minus m)) c.label_frames.ensures
    ∙ held_same c.args.rate c.args.minus c.args.fields e
    ∙ sym (label_counted-in c.args.rate c.args.minus c.args.fields e)
