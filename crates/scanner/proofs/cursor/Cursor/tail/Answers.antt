-- `scanner::Cursor::tail` meets its contract: where one may come the byte at the cursor decides, here as in the definition.
-- Assumes nothing.
use Rattle.std.proofs.Common.{drop, ap, ◌∙◌, Ok}
use Rattle.scanner.proofs.Optional.{tail-closed, tail_none, tail-missing, tail-some}
use Rattle.scanner.proofs.cursor.Cursor.tail.Goals as goal

pub returns-then-most-eq0 : goal.returns-then-most-eq0
returns-then-most-eq0 c =
    ap Ok c.none.ensures ∙ tail-closed c.args.most c.args.self.at (drop c.args.self.at c.args.s.now) c.if-most-eq0.true

pub returns-in_default : goal.returns-in_default
returns-in_default c =
    ap Ok c.none-in_default.ensures
    ∙ tail_none c.args.most c.args.self.at c.if-most-eq0.false (drop c.args.self.at c.args.s.now) c.in_default.ensures

pub returns-then-field-eq0 : goal.returns-then-field-eq0
returns-then-field-eq0 c =
    tail-missing c.args.most c.args.self.at c.if-most-eq0.false c.args.s.now c.in-Some.first c.field-field.result c.in-Some.ensures c.field-field.ensures c.if-field-eq0.true

pub returns : goal.returns
returns c =
    tail-some c.args.most c.args.self.at c.if-most-eq0.false c.args.s.now c.in-Some.first c.field-field.result c.in-Some.ensures c.field-field.ensures c.if-field-eq0.false
