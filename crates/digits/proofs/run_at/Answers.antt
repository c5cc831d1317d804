-- `digits::run_at` meets its contract: each turn takes one digit of the run, and the loop ends where none stands.
-- Assumes nothing.
use Rattle.std.proofs.Common.{arith, sym, ap, ◌≡◌, ◌∙◌, [], ℕ, length, drop, take_all, length-drop}
use Rattle.std.proofs.Math.ListN.{drop_of_length-le}
use Rattle.digits.specs.Digits.{run_of}
use Rattle.digits.proofs.Taking.{first-here, taking-start, taking-turn, taking-done, taking-all}
use Rattle.digits.proofs.run_at.Goals as goal
use Rattle.digits.proofs.run_at.Goals.{In-Some}

pub returns-in_default : goal.returns-in_default
returns-in_default c =
    let h = c.in_default.ensures.lookup in
    let none : drop c.args.at c.args.s.now ≡ [] = drop_of_length-le c.args.s.now (omega (arith, h.0)) in
    rw none (taking-all [] 0 0 (taking-start []) (omega arith))

-- the rest that is gone over
rest-is : (c : In-Some) → c.in-Some.rest.now ≡ drop c.args.at c.args.s.now
rest-is c =
    let h = c.in-Some.ensures.lookup.0 in
    h.2 ∙ take_all _ _ (omega (arith, length-drop c.args.at c.args.s.now))

pub loop-count-init : goal.loop-count-init
loop-count-init c = taking-start c.in-Some.rest.now

pub loop-count-preserved : goal.loop-count-preserved
loop-count-preserved c =
    rw c.push-value.ensures (taking-turn c.in-Some.rest.now c.loop-count.count c.loop-count.value c.loop-count.invariant (omega arith) (sym c.is_digit.ensures ∙ c.if-not-is_digit.false))

pub returns-then-not-is_digit : goal.returns-then-not-is_digit
returns-then-not-is_digit c =
    let no = first-here c.in-Some.rest.now c.loop-count.count (omega arith) ∙ sym c.is_digit.ensures ∙ c.if-not-is_digit.true in
    taking-done c.in-Some.rest.now c.loop-count.count c.loop-count.value c.loop-count.invariant no ∙ ap run_of (rest-is (goal.at.returns-then-not-is_digit c).In-Some)

pub returns : goal.returns
returns c =
    let end : ◌≡◌ {A = ℕ} c.loop-count.count (length c.in-Some.rest.now) = omega arith in
    ap (λ (n : ℕ). record { value = c.loop-count.value; count = n }) (sym end)
    ∙ taking-all c.in-Some.rest.now c.loop-count.count c.loop-count.value c.loop-count.invariant (omega arith)
    ∙ ap run_of (rest-is (goal.at.returns c).In-Some)
