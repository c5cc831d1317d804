-- `shot_writer::measure` meets its contract: what is measured is the bytes counted so far and those that the rest of the list gives.
-- Assumes nothing.
use Rattle.std.specs.Prelude.{Ok, Err}
use borrow.Author.Rules.{rules}
use Prim.Native.Nat.{ℕ, ◌+◌, ◌*◌, ◌≤◌, ◌<◌}
use mathlib.Core.Path.{◌≡◌, sym, ap, ◌∙◌}
use native.Mathlib.Omega.{arith}
use lib.ListN.{length, drop}
use Rattle.shot_lists.specs.Entries.{in_numbers, entry_of, taken}
use Rattle.shot_lists.specs.Reading.{read_of}
use Rattle.shot_lists.specs.Walk.{going-begin, going-turn, going-stop, going-over, going-nearer}
use Rattle.shot_writer.specs.ListText.{measured_of}
use Rattle.shot_writer.proofs.Lengths.{taken-bytes}
use Rattle.shot_writer.proofs.Measuring.{measured, measured-more, measured-zero, nothing_left}
use Rattle.shot_writer.proofs.measure.Goals as goal
use Rattle.shot_writer.proofs.measure.Goals.{After-record_length-n, In-Some}

pub loop-record-init : goal.loop-record-init
loop-record-init c =
    (omega arith, rw (← measured-zero (read_of in_numbers c.args.given.now)) (going-begin in_numbers c.args.given.now (measured 0)))

-- a record was taken
found : (c : In-Some)
    → entry_of in_numbers c.loop-record.held (drop c.loop-record.at c.args.given.now) ≡ taken c.in-Some.record.found c.in-Some.record.held c.in-Some.record.size
found c =
    sym c.in_ok-record.ensures ∙ ap Ok c.in-Some.is

nearer-now : (c : In-Some)
    → (0 < c.in-Some.record.size) × (c.loop-record.at + c.in-Some.record.size ≤ length c.args.given.now)
nearer-now c =
    going-nearer in_numbers c.args.given.now c.loop-record.at c.loop-record.held _ _ _ (found c)

-- what was counted stays below what the numbers allow
bound : (c : After-record_length-n)
    → c.loop-record.n + c.record_length-n.result ≤ 3 * (c.loop-record.at + c.in-Some.record.size)
bound c =
    omega (arith, c.loop-record.invariant.0, c.record_length-n.ensures, taken-bytes c.loop-record.held (drop c.loop-record.at c.args.given.now) _ _ _ (sym c.in_ok-record.ensures ∙ ap Ok c.in-Some.is))

-- eight bytes for each number of a slice
slice-small : (c : In-Some) → length c.args.given.now * 8 < 9223372036854775808
slice-small c =
    c.well_formed.0.1

pub loop-record-preserved : goal.loop-record-preserved
loop-record-preserved c = (
  bound (goal.at.loop-record-preserved c).After-record_length-n,
  going-turn in_numbers c.args.given.now (measured_of (read_of in_numbers c.args.given.now)) (measured c.loop-record.n) (measured (c.loop-record.n + c.record_length-n.result)) c.loop-record.at c.loop-record.held
      _ _ _ c.loop-record.invariant.1 (found (goal.at.loop-record-preserved c).In-Some)
      (λ t _. measured-more c.loop-record.n _ t ∙ ap (λ (m : ℕ). measured (c.loop-record.n + m) t) (sym c.record_length-n.ensures)),
)

pub returns-in_err-record : goal.returns-in_err-record
returns-in_err-record c =
    let refused =
    going-stop in_numbers c.args.given.now (measured_of (read_of in_numbers c.args.given.now)) (measured c.loop-record.n) c.loop-record.at c.loop-record.held _ c.loop-record.invariant.1
    (sym c.in_err-record.ensures) in
    let failed : c.from_residual.result ≡ Err c.in_err-record.field-0.0 = search rules in
    failed ∙ sym refused

pub returns : goal.returns
returns c =
    sym
    (going-over in_numbers c.args.given.now (measured_of (read_of in_numbers c.args.given.now)) (measured c.loop-record.n) c.loop-record.at c.loop-record.held c.loop-record.invariant.1
    (sym c.in_ok-record.ensures ∙ ap Ok c.in_default.is)
    ∙ nothing_left c.loop-record.n)

pub overflow_add-n : goal.overflow_add-n
overflow_add-n c = record { fits = omega (arith, bound (goal.at.overflow_add-n c).After-record_length-n, (nearer-now (goal.at.overflow_add-n c).In-Some).1, slice-small (goal.at.overflow_add-n c).In-Some) }

pub overflow_add-at : goal.overflow_add-at
overflow_add-at c = record { fits = omega (arith, (nearer-now (goal.at.overflow_add-at c).In-Some).1) }

pub loop-record-smaller : goal.loop-record-smaller
loop-record-smaller c = omega (arith, nearer-now (goal.at.loop-record-smaller c).In-Some)
