-- `lines::read_line` meets its contract: a line that is none is refused, and the text of any other is read at its rate.
-- Assumes nothing.
use Rattle.std.specs.Prelude.{None, Err}
use Rattle.std.proofs.lemmas.Bool.{not_from_false, not_from_true}
use Prim.Native.Nat.{ℕ, ◌-◌, ◌≤◌}
use native.Mathlib.Omega.{arith}
use mathlib.Core.Path.{◌≡◌, sym, ap, ap₂, ◌∙◌}
use mathlib.Core.List.{List}
use mathlib.Core.Bool.{true}
use lib.ListN.{length, take, drop, length-drop}
use lib.Seq.{take_all}
use Rattle.numbers.proofs.Tests.{fails, passes}
use Rattle.reading.specs.Reading.{read_text}
use Rattle.reading.proofs.ByShape.{read_length}
use Rattle.lines.specs.Input.{is_line, text_in, line_holds}
use Rattle.lines.proofs.Begun.{line-least, not_line, line-held}
use Rattle.lines.proofs.read_line.Goals as goal
use Rattle.lines.proofs.read_line.Goals.{Else-not-is_line}

line : (c : Else-not-is_line) → is_line c.args.input.now ≡ true
line c =
    passes c.is_line.ensures (not_from_true _ c.if-not-is_line.false)

least : (c : Else-not-is_line) → 3 ≤ length c.args.input.now
least c =
    line-least c.args.input.now (line c)

pub returns-then-not-is_line : goal.returns-then-not-is_line
returns-then-not-is_line c =
    ap Err c.into.ensures ∙ sym (not_line c.args.input.now (fails c.is_line.ensures (not_from_false _ c.if-not-is_line.true)))

pub slice_bounds-read_text-count : goal.slice_bounds-read_text-count
slice_bounds-read_text-count c =
    omega (arith, least (goal.at.slice_bounds-read_text-count c).Else-not-is_line)

pub slice_bounds-read_text-start : goal.slice_bounds-read_text-start
slice_bounds-read_text-start c =
    omega (arith, least (goal.at.slice_bounds-read_text-start c).Else-not-is_line)

pub returns : goal.returns
returns c =
    let rest : take (length c.args.input.now - 3) (drop 3 c.args.input.now) ≡ text_in c.args.input.now = take_all (length c.args.input.now - 3) (drop 3 c.args.input.now) (omega (arith, length-drop 3 c.args.input.now)) in
    c.line_holds.ensures
    ∙ ap line_holds
    (c.read_text.ensures
    ∙ read_length _ None _
    ∙ ap₂ (λ (t : List ℕ) (r : ℕ). read_text t None r) rest c.rate_in-rate.ensures)
    ∙ sym (line-held c.args.input.now (line (goal.at.returns c).Else-not-is_line))
