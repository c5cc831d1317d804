-- `asking::values::digits_at` meets its contract: the run there is its digits, and what is held of their value is enough.
-- Assumes nothing.
use mathlib.Core.Path.{ap, ◌∙◌}
use native.Mathlib.Omega.{arith}
use Rattle.digits.proofs.Runs.{run-count}
use Rattle.asking.proofs.NumberLaws.{digits-none, digits-within, part-digits, digits-some}
use Rattle.asking.proofs.values.digits_at.Goals as goal

pub returns-then-n-eq0 : goal.returns-then-n-eq0
returns-then-n-eq0 c =
    digits-none _ _ _ (ap (λ z. z.count) c.run_at-n.ensures ∙ run-count _) _ c.if-n-eq0.true

pub overflow_add-end : goal.overflow_add-end
overflow_add-end c =
    omega (arith, digits-within c.args.line.now c.args.at _ (ap (λ z. z.count) c.run_at-n.ensures ∙ run-count _) c.if-n-eq0.false)

pub slice_bounds-magnitude-end : goal.slice_bounds-magnitude-end
slice_bounds-magnitude-end c =
    digits-within _ _ _ (ap (λ z. z.count) c.run_at-n.ensures ∙ run-count _) c.if-n-eq0.false

pub magnitude-requires : goal.magnitude-requires
magnitude-requires c =
    part-digits _ _ _ (ap (λ z. z.count) c.run_at-n.ensures ∙ run-count _)

pub returns : goal.returns
returns c =
    c.signed.ensures
    ∙ digits-some _ _ _ (ap (λ z. z.count) c.run_at-n.ensures ∙ run-count _) _ _ c.if-n-eq0.false c.magnitude.ensures
