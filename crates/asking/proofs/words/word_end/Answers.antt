-- `asking::words::word_end` meets its contract: the place of the first space, or the line's end.
-- Assumes nothing.
use Rattle.std.proofs.Common.{ℕ, ◌==◌, length, sym, ◌∙◌, arith, rules}
use Rattle.std.proofs.lemmas.List.Sums.{position_or_len_is}
use Rattle.asking.proofs.Taken.{first-space}
use Rattle.asking.proofs.words.word_end.Goals as goal

pub returns-in-Some : goal.returns-in-Some
returns-in-Some c =
    let line = c.args.line.now in
    sym (position_or_len_is (λ (b : ℕ). b == 32) line c.in-Some.end 0 (search rules) (search rules) (search rules)) ∙ first-space line

pub returns-in-None : goal.returns-in-None
returns-in-None c =
    let line = c.args.line.now in
    sym (position_or_len_is (λ (b : ℕ). b == 32) line (length line) 0 (omega arith) (search rules) (search rules)) ∙ first-space line
