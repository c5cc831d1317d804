-- The answer to a refused line is laid down: number and newline, lent the rest of the part, stand right behind the word.
-- Assumes nothing.
use native.Mathlib.Omega.{arith}
use mathlib.Core.Path.{refl}
use mathlib.Core.Bool.{false}
use Rattle.lent.proofs.Laws.{laid-lent}
use Rattle.lines.specs.Output.{bytes_of, refused_text, ended_text}
use Rattle.lines.proofs.Texts.{ended_length, refused_length}
use Rattle.lines.proofs.RefusedLineWritable.put.Goals as goal

pub put_ended-requires : goal.put_ended-requires
put_ended-requires c =
    omega (arith, c.requires, refused_length c.args.self.now.number, ended_length false c.args.self.now.number 10)

pub returns : goal.returns
unfolding refused_text
returns c =
    laid-lent c.args.part.now _ _ (bytes_of "refused ") (ended_text false c.args.self.now.number 10) 8
    c.put_text.ensures refl c.requires c.put_ended.ensures
