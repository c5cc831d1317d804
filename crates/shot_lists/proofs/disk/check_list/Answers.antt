-- `shot_lists::disk::check_list` meets its contract: what the list gives is the records counted so far and what the rest of it gives.
-- Assumes nothing.
use Rattle.std.specs.Prelude.{Ok, Err}
use Prim.Native.Nat.{◌+◌, ◌≤◌, ◌<◌}
use mathlib.Core.Path.{◌≡◌, sym, ap, ◌∙◌}
use native.Mathlib.Omega.{arith}
use native.Mathlib.Nat.{add-zero}
use borrow.Author.Rules.{rules}
use lib.ListN.{length, drop}
use Rattle.shot_lists.specs.Entries.{on_disk, entry_of, taken}
use Rattle.shot_lists.specs.Reading.{read_of, checked_of}
use Rattle.shot_lists.specs.Walk.{going-begin, going-turn, going-stop, going-over, going-nearer}
use Rattle.shot_lists.proofs.Counting.{counted, counted-more, counted-zero}
use Rattle.shot_lists.proofs.disk.check_list.Goals as goal
use Rattle.shot_lists.proofs.disk.check_list.Goals.{In-Some}

pub loop-record-init : goal.loop-record-init
loop-record-init c =
    (omega arith, rw (← counted-zero (read_of on_disk c.args.list.now)) (going-begin on_disk c.args.list.now (counted 0)))

-- a record was taken
found : (c : In-Some)
    → entry_of on_disk c.loop-record.held (drop c.loop-record.at c.args.list.now) ≡ taken c.in-Some.record.found c.in-Some.record.held c.in-Some.record.size
found c =
    sym c.in_ok-record.ensures ∙ ap Ok c.in-Some.is

nearer-now : (c : In-Some)
    → (0 < c.in-Some.record.size) × (c.loop-record.at + c.in-Some.record.size ≤ length c.args.list.now)
nearer-now c =
    going-nearer on_disk c.args.list.now c.loop-record.at c.loop-record.held _ _ _ (found c)

pub loop-record-preserved : goal.loop-record-preserved
loop-record-preserved c = (
  omega (arith, (nearer-now (goal.at.loop-record-preserved c).In-Some).0, c.loop-record.invariant.0),
  going-turn on_disk c.args.list.now (checked_of (read_of on_disk c.args.list.now)) (counted c.loop-record.n) (counted (c.loop-record.n + 1)) c.loop-record.at c.loop-record.held _ _ _
      c.loop-record.invariant.1 (found (goal.at.loop-record-preserved c).In-Some) (λ t _. counted-more c.loop-record.n _ t),
)

pub returns-in_err-record : goal.returns-in_err-record
returns-in_err-record c =
    let refused =
    going-stop on_disk c.args.list.now (checked_of (read_of on_disk c.args.list.now)) (counted c.loop-record.n) c.loop-record.at c.loop-record.held _ c.loop-record.invariant.1
    (sym c.in_err-record.ensures) in
    let failed : c.from_residual.result ≡ Err c.in_err-record.field-0.0 = search rules in
    failed ∙ sym refused

pub returns : goal.returns
returns c =
    sym
    (going-over on_disk c.args.list.now (checked_of (read_of on_disk c.args.list.now)) (counted c.loop-record.n) c.loop-record.at c.loop-record.held c.loop-record.invariant.1
    (sym c.in_ok-record.ensures ∙ ap Ok c.in_default.is)
    ∙ ap Ok (add-zero c.loop-record.n))

pub overflow_add-at : goal.overflow_add-at
overflow_add-at c = record { fits = omega (arith, (nearer-now (goal.at.overflow_add-at c).In-Some).1) }

pub overflow_add-n : goal.overflow_add-n
overflow_add-n c = record { fits = omega (arith, (nearer-now (goal.at.overflow_add-n c).In-Some).0, (nearer-now (goal.at.overflow_add-n c).In-Some).1, c.loop-record.invariant.0) }

pub loop-record-smaller : goal.loop-record-smaller
loop-record-smaller c = omega (arith, nearer-now (goal.at.loop-record-smaller c).In-Some)
