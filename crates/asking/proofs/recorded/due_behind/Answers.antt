-- `asking::recorded::due_behind` meets its contract: a shot has two numbers, and its kind is 2.
-- Assumes nothing.
use mathlib.Core.Path.{◌≡◌, sym, ◌∙◌}
use lib.IntN.{nat_abs}
use borrow.Author.Rules.{rules}
use Rattle.asking.proofs.RecordSteps.{due-less, due-two, due-one}
use Rattle.asking.proofs.recorded.due_behind.Goals as goal
use Rattle.asking.proofs.recorded.due_behind.Goals.{After-unsigned_abs}

pub returns-then-due-ne0 : goal.returns-then-due-ne0
returns-then-due-ne0 c =
    due-less _ _ c.if-due-ne0.true

-- the number's magnitude
size : (c : After-unsigned_abs) → c.unsigned_abs.result ≡ nat_abs c.args.z
size c =
    search rules

pub returns-then-unsigned_abs-eq2 : goal.returns-then-unsigned_abs-eq2
returns-then-unsigned_abs-eq2 c =
    due-two _ _ c.if-due-ne0.false (sym (size (goal.at.returns-then-unsigned_abs-eq2 c).After-unsigned_abs) ∙ c.if-unsigned_abs-eq2.true)

pub returns-else-unsigned_abs-eq2 : goal.returns-else-unsigned_abs-eq2
returns-else-unsigned_abs-eq2 c =
    due-one _ _ c.if-due-ne0.false (λ e. c.if-unsigned_abs-eq2.false (size (goal.at.returns-else-unsigned_abs-eq2 c).After-unsigned_abs ∙ e))
