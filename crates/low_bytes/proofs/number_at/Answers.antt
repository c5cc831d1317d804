-- `low_bytes::number_at` meets its contract: each turn takes the next lower byte, and what is summed up is what those taken are worth.
-- Assumes nothing.
use Rattle.std.proofs.Common.{arith, ap, ◌≡◌, ◌∙◌, ◌<◌, ◌+◌, ◌*◌, min, take, drop, [], take_all, length-drop, length-take}
use Rattle.std.proofs.Math.ListN.{drop_of_length-le}
use Rattle.std.proofs.Math.Seq.{take-nil}
use Rattle.std.proofs.lemmas.List.{take_min}
use Rattle.low_bytes.specs.LowBytes.{Bytes, worth}
use Rattle.low_bytes.specs.Laws.{bytes_take, bytes_drop}
use Rattle.low_bytes.proofs.Summing.{summing_start, summing-turn, summing-fits, summing-done}
use Rattle.low_bytes.proofs.number_at.Goals as goal
use Rattle.low_bytes.proofs.number_at.Goals.{After-into_iter-b-iterator, In-Some-b}

pub returns-in_default : goal.returns-in_default
returns-in_default c =
    let h = c.in_default.ensures.lookup.0 in
    let none : drop c.args.at c.args.s.now ≡ [] = drop_of_length-le c.args.s.now (omega (arith, h)) in
    rw (none, take-nil) (summing-done [] [] 0 (summing_start []) (omega arith))

-- the bytes that are summed
bytes-are : (c : After-into_iter-b-iterator)
    → c.into_iter-b-iterator.result.iter.rest.now ≡ take (min c.args.width 8) (drop c.args.at c.args.s.now)
bytes-are c =
    let h = c.in-Some.ensures.lookup.0 in
    let rest : c.in-Some.rest.now ≡ drop c.args.at c.args.s.now = h.2 ∙ take_all _ _ (omega (arith, length-drop c.args.at c.args.s.now)) in
    rw (c.into_iter-b-iterator.ensures.into_iter_gives, c.rev-b-items.ensures.source, c.iter.ensures.rest, c.min-2.ensures, c.min.ensures, take_min, rest)

pub loop-b-init : goal.loop-b-init
loop-b-init c = summing_start _

-- with the next byte the sum still fits
fits : (c : In-Some-b) → c.loop-b.n * 256 + c.in-Some-b.b.now < 18446744073709551616
fits c =
    let e = bytes-are (goal.at.overflow_mul-n c).After-into_iter-b-iterator in
    let m = drop c.args.at c.args.s.now in
    let some : Bytes (take (min c.args.width 8) m) = bytes_take (min c.args.width 8) m (bytes_drop c.args.at c.args.s.now (λ i. (c.type_inv.s i).fits)) in
    summing-fits _ _ _ _ _ c.loop-b.invariant c.in-Some-b.ensures.steps (rw e some) (rw e (omega (arith, length-take (min c.args.width 8) m)))

pub overflow_mul-n : goal.overflow_mul-n
overflow_mul-n c = record { fits = omega (arith, fits c) }

pub overflow_add-n : goal.overflow_add-n
overflow_add-n c = record { fits = rw c.from.ensures (fits (goal.at.overflow_add-n c).In-Some-b) }

pub loop-b-preserved : goal.loop-b-preserved
loop-b-preserved c =
    rw c.from.ensures (summing-turn _ _ _ _ _ c.loop-b.invariant c.in-Some-b.ensures.steps)

pub returns : goal.returns
returns c =
    summing-done _ _ _ c.loop-b.invariant c.in-None.ensures.steps.0 ∙ ap worth (bytes-are (goal.at.returns c).After-into_iter-b-iterator)
