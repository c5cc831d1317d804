-- `shot_lists::records::rule` meets its contract: behind the verdict on the record's numbers.
-- Assumes nothing.
use mathlib.Core.Path.{sym, ap, ◌∙◌}
use borrow.Author.Rules.{rules}
use Rattle.answers.specs.OrderLaws.{judged-refused, judged-clear, unless-clear}
use Rattle.std.specs.Prelude.{Err}
use Rattle.shot_lists.specs.Records.{held_after, faults}
use Rattle.shot_lists.specs.Entries.{ruled, taken}
use Rattle.shot_lists.proofs.records.rule.Goals as goal

pub returns-in_err-fault : goal.returns-in_err-fault
unfolding ruled
returns-in_err-fault c =
    let refused = judged-refused (faults c.args.held c.args.found) _ (sym c.in_err-fault.ensures) Err (taken c.args.found (held_after c.args.held c.args.found) c.args.size) in
    search rules

pub returns : goal.returns
unfolding ruled
returns c =
    let clear = judged-clear (faults c.args.held c.args.found) (sym c.in_ok-fault.ensures) in
    let passed = unless-clear Err (faults c.args.held c.args.found) (taken c.args.found (held_after c.args.held c.args.found) c.args.size) clear in
    ap (λ h. taken c.args.found h c.args.size) c.held_after.ensures ∙ sym passed
