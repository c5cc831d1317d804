-- `asking::words::word_at` meets its contract: shards by their letter, else the number there, where its letter allows it.
-- Assumes nothing.
use Rattle.std.specs.Prelude.{◌≡◌}
use mathlib.Core.Path.{ap, ◌∙◌}
use borrow.Author.Rules.{rules}
use Rattle.asking.specs.Asked.{allowed}
use Rattle.asking.proofs.Taken.{word-shards, word_number}
use Rattle.asking.proofs.words.word_at.Goals as goal

pub returns-then-kind-eq115 : goal.returns-then-kind-eq115
returns-then-kind-eq115 c = c.word.ensures ∙ word-shards c.args.kind c.args.line.now c.args.at c.if-kind-eq115.true

pub returns : goal.returns
returns c =
    let e : c.filter.result ≡ allowed c.args.kind c.value_at.result = search rules in
    e ∙ ap (allowed c.args.kind) c.value_at.ensures ∙ word_number c.args.kind c.args.line.now c.args.at c.if-kind-eq115.false
