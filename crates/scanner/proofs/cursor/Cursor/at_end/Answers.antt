-- `scanner::Cursor::at_end` meets its contract: nothing is left exactly where the place is not below the length.
-- Assumes nothing.
use Rattle.scanner.proofs.Answers.{end_is}
use Rattle.scanner.proofs.cursor.Cursor.at_end.Goals as goal

pub returns : goal.returns
returns c =
    end_is c.args.s.now c.args.self.at
