-- `asking::words::ended` meets its contract: where the rest begins decides.
-- Assumes nothing.
use mathlib.Core.Path.{ap, ◌∙◌}
use lib.ListN.{drop}
use Rattle.asking.specs.Asked.{rest_at, asked_rest, ended_at}
use Rattle.asking.proofs.words.ended.Goals as goal

pub returns-in-Some : goal.returns-in-Some
unfolding ended_at
returns-in-Some c =
    ap (asked_rest c.args.row c.args.values) (c.in-Some.ensures ∙ ap (λ z. rest_at z c.args.at (drop c.args.at c.args.line.now)) c.kind_of.ensures)

pub returns-in-None : goal.returns-in-None
unfolding ended_at
returns-in-None c =
    c.not_understood.ensures
    ∙ ap (asked_rest c.args.row c.args.values) (c.in-None.ensures ∙ ap (λ z. rest_at z c.args.at (drop c.args.at c.args.line.now)) c.kind_of.ensures)
