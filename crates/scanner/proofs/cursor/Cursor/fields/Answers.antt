-- `scanner::Cursor::fields` meets its contract: with each turn a field more is kept, and what is found from the cursor on is the rest.
-- Assumes nothing.
use mathlib.Core.Path.{◌≡◌, refl, sym, ap, ◌∙◌}
use native.Mathlib.Omega.{arith}
use Rattle.scanner.specs.declared.fields.Scanned.{Scanned}
use Rattle.scanner.specs.Fields.{none_taken, fields_found}
use Rattle.scanner.proofs.Keeping.{keeping_start, keeping-over, keeping-missing, keeping-last, keeping-turn}
use Rattle.scanner.proofs.cursor.Cursor.fields.Goals as goal
use Rattle.scanner.proofs.cursor.Cursor.fields.Goals.{After-new-taken}

-- what is wanted is found from the first cursor on
from_first : (c : After-new-taken) → fields_found c.args.dividers c.args.most c.args.s.now c.args.self.at ≡ fields_found c.args.dividers c.args.most c.args.s.now c.new-taken.result.next.at
from_first c =
    sym (ap (λ (x : Scanned). fields_found c.args.dividers c.args.most c.args.s.now x.next.at) c.new-taken.ensures)

pub loop-left-init : goal.loop-left-init
loop-left-init c =
    rw c.new-taken.ensures (keeping_start c.args.dividers c.args.most c.args.s.now c.args.self (none_taken c.args.self) refl)

pub returns-then-field-eq0 : goal.returns-then-field-eq0
returns-then-field-eq0 c =
    sym
    (from_first (goal.at.returns-then-field-eq0 c).After-new-taken
    ∙ keeping-missing c.args.dividers c.args.most c.args.s.now c.new-taken.result.next.at c.loop-left.taken c.loop-left.left c.loop-left.invariant
    c.loop-left-test.true c.field-field.result c.field-field.ensures c.if-field-eq0.true)

pub keep-taken-requires : goal.keep-taken-requires
keep-taken-requires c =
    omega (arith, c.loop-left.invariant.room)

pub returns-in_default : goal.returns-in_default
returns-in_default c =
    sym
    (from_first (goal.at.returns-in_default c).After-new-taken
    ∙ keeping-last c.args.dividers c.args.most c.args.s.now c.new-taken.result.next.at c.loop-left.taken c.loop-left.left c.loop-left.invariant
    c.loop-left-test.true c.field-field.result c.field-field.ensures c.if-field-eq0.false c.keep-taken.result c.keep-taken.ensures
    c.in_default.ensures)

pub loop-left-preserved : goal.loop-left-preserved
loop-left-preserved c =
    keeping-turn c.args.dividers c.args.most c.args.s.now c.new-taken.result.next.at c.loop-left.taken c.loop-left.left c.loop-left.invariant
    c.loop-left-test.true c.field-field.result c.field-field.ensures c.if-field-eq0.false c.keep-taken.result c.keep-taken.ensures
    c.in-Some.next c.in-Some.ensures c.begin-taken.result c.begin-taken.ensures

pub returns : goal.returns
returns c =
    sym (from_first (goal.at.returns c).After-new-taken ∙ keeping-over c.args.dividers c.args.most c.args.s.now c.new-taken.result.next.at c.loop-left.taken c.loop-left.left c.loop-left.invariant c.loop-left-test.false)
