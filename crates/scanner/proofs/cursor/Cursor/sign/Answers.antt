-- `scanner::Cursor::sign` meets its contract: the byte at the cursor decides, here as in the definition.
-- Assumes nothing.
use Rattle.std.proofs.Common.{drop}
use Rattle.scanner.proofs.Optional.{sign-none, sign-some}
use Rattle.scanner.proofs.cursor.Cursor.sign.Goals as goal

pub returns-in-None : goal.returns-in-None
returns-in-None c =
    sign-none c.args.self.at (drop c.args.self.at c.args.s.now) c.in-None.ensures

pub returns-in-Some : goal.returns-in-Some
returns-in-Some c =
    sign-some c.args.self.at (drop c.args.self.at c.args.s.now) c.in-Some.next c.in-Some.ensures
