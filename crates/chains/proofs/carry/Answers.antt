-- `chains::carry` meets its contract: the rest of the list, from the timecode at hand, ends where the whole does.
-- Assumes nothing.
use Rattle.std.specs.Prelude.{Ok, Err}
use mathlib.Core.Path.{◌≡◌, sym, ap, ◌∙◌}
use mathlib.Core.List.{◌∷◌}
use Prim.Native.Nat.{◌+◌, ◌<◌}
use borrow.Author.Rules.{rules}
use native.Mathlib.Numerals.{add-one}
use lib.ListN.{length, get_or, drop, drop_of_length-le}
use lib.Seq.{drop-cons}
use Rattle.std.proofs.lemmas.Result.{err_from_is_err_and}
use Rattle.laws.specs.Every.{at_every}
use Rattle.rates.specs.Rates.{is_rate}
use Rattle.chains.specs.Chain.{step_of}
use Rattle.chains.specs.ChainLaws.{step_of-valid, step_of-kind, carried_none, carried-next, carried-stop}
use Rattle.chains.proofs.carry.Goals as goal
use Rattle.chains.proofs.carry.Goals.{In-loop-next}

-- the rest begins with the number at hand
from-here : (c : In-loop-next)
    → drop c.loop-next.next-index c.args.list.now ≡ get_or c.args.list.now c.loop-next.next-index 0 ∷ drop (c.loop-next.next-index + 1) c.args.list.now
from-here c =
    let below : c.loop-next.next-index < length c.args.list.now = search rules in
    rw (add-one, drop-cons c.args.list.now c.loop-next.next-index 0)

pub returns-in_err-at : goal.returns-in_err-at
returns-in_err-at c =
    let next = get_or c.args.list.now c.loop-next.next-index 0 in
    let p = err_from_is_err_and c.from_residual.result c.from_residual.ensures.1 in
    p.1 ∙ ap Err p.2
    ∙ sym (carried-stop c.loop-next.at next (drop (c.loop-next.next-index + 1) c.args.list.now) _ (sym c.step.ensures ∙ c.in_err-at.was))
    ∙ (rw (from-here (goal.at.returns-in_err-at c).In-loop-next) at c.loop-next.invariant.same_end)

pub loop-next-preserved : goal.loop-next-preserved
loop-next-preserved c =
    let next = get_or c.args.list.now c.loop-next.next-index 0 in
    let below : c.loop-next.next-index < length c.args.list.now = search rules in
    let took : step_of c.loop-next.at next ≡ Ok c.in_ok-at.at = sym c.step.ensures ∙ c.in_ok-at.was in
    record {
      valid =
          step_of-valid c.loop-next.at c.in_ok-at.at next c.loop-next.invariant.length
          (at_every is_rate c.args.list.now 0 c.requires.rates c.loop-next.next-index below) took;
      length = step_of-kind c.loop-next.at c.in_ok-at.at next took ∙ c.loop-next.invariant.length;
      same_end =
          sym (carried-next c.loop-next.at c.in_ok-at.at next (drop (c.loop-next.next-index + 1) c.args.list.now) took)
          ∙ (rw (from-here (goal.at.loop-next-preserved c).In-loop-next) at c.loop-next.invariant.same_end);
    }

pub returns : goal.returns
returns c =
    sym (carried_none c.loop-next.at) ∙ (rw (drop_of_length-le c.args.list.now c.loop-next-test.false) at c.loop-next.invariant.same_end)
