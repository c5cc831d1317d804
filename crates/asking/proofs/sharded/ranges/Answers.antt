-- `asking::sharded::ranges` meets its contract: what is wanted from here is what is wanted from the start.
-- Assumes nothing.
use Rattle.asking.specs.ShardWords.{some_range}
use Prim.Native.Nat.{◌≤◌, ◌<◌}
use mathlib.Core.Path.{◌≡◌, sym, ap, ◌∙◌}
use native.Mathlib.Omega.{arith}
use lib.ListN.{length, set}
use borrow.Author.Rules.{rules}
use mir.Syntax.{w64}
use mir.Val.{to_z, of_z}
use Rattle.numbers.specs.Sign.{up_from}
use Rattle.asking.specs.ShardWords.{range_at}
use Rattle.asking.proofs.Ranges.{ranging-start, ranging-none, ranging-over, ranging-turn, range-past}
use Rattle.outcomes.proofs.Clauses.{answer_firsts_ends}
use Rattle.asking.proofs.sharded.ranges.Goals as goal
use Rattle.asking.proofs.sharded.ranges.Goals.{After-stands, In-Some}

pub loop-r-init : goal.loop-r-init
loop-r-init c =
    ranging-start _ _ _ _

pub returns-in_default : goal.returns-in_default
returns-in_default c =
    answer_firsts_ends
    (ranging-none _ _ _ _ _ _ _ _ c.loop-r.invariant (sym c.range_at.ensures ∙ c.in_default.is))

-- a range stands there
found : (c : In-Some)
    → range_at c.args.line.now c.loop-r.at ≡ some_range c.in-Some.r.first c.in-Some.r.end c.in-Some.r.next
found c =
    sym c.range_at.ensures ∙ c.in-Some.is

-- it ends behind the place, within the line
past : (c : In-Some)
    → (c.loop-r.at < c.in-Some.r.next) × (c.in-Some.r.next ≤ length c.args.line.now)
past c =
    range-past _ _ _ _ _ (found c)

-- the two numbers, read back
first_back : (c : In-Some) → to_z w64 (of_z w64 c.in-Some.r.first) ≡ c.in-Some.r.first
first_back c =
    search rules

end_back : (c : In-Some) → to_z w64 (of_z w64 c.in-Some.r.end) ≡ c.in-Some.r.end
end_back c =
    search rules

pub overflow_add-n : goal.overflow_add-n
overflow_add-n c =
    omega (arith, past (goal.at.overflow_add-n c).In-Some, c.loop-r.invariant.few)

-- the lists with the range in them
firsts_are : (c : After-stands)
    → c.put.new.list ≡ set c.loop-r.firsts c.loop-r.n (up_from c.in-Some.r.first)
firsts_are c =
    c.put.ensures ∙ ap (λ x. set c.loop-r.firsts c.loop-r.n (up_from x)) ((let told : to_z w64 (of_z w64 c.in-Some.r.first) ≡ c.in-Some.r.first = search rules in told))

ends_are : (c : After-stands)
    → c.put-in-loop-r.new.list ≡ set c.loop-r.ends c.loop-r.n (up_from c.in-Some.r.end)
ends_are c =
    c.put-in-loop-r.ensures ∙ ap (λ x. set c.loop-r.ends c.loop-r.n (up_from x)) ((let told : to_z w64 (of_z w64 c.in-Some.r.end) ≡ c.in-Some.r.end = search rules in told))

pub returns-then-not-stands : goal.returns-then-not-stands
returns-then-not-stands c =
    answer_firsts_ends
    (ranging-over _ _ _ _ _ _ _ _ c.loop-r.invariant _ _ _ (found (goal.at.returns-then-not-stands c).In-Some) _ _ (firsts_are (goal.at.returns-then-not-stands c).After-stands) (ends_are (goal.at.returns-then-not-stands c).After-stands)
    (sym c.stands.ensures ∙ c.if-not-stands.true) _ c.is_over.ensures)

pub loop-r-smaller : goal.loop-r-smaller
loop-r-smaller c =
    omega (arith, past (goal.at.loop-r-smaller c).In-Some)

pub loop-r-preserved : goal.loop-r-preserved
loop-r-preserved c =
    ranging-turn _ _ _ _ _ _ _ _ c.loop-r.invariant _ _ _ (found (goal.at.loop-r-preserved c).In-Some) _ _ (firsts_are (goal.at.loop-r-preserved c).After-stands) (ends_are (goal.at.loop-r-preserved c).After-stands)
    (sym c.stands.ensures ∙ c.if-not-stands.false)
