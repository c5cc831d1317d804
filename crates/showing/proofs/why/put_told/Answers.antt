-- `showing::why::put_told` meets its contract: what the reader answers, the fact behind it, and the length behind that.
-- Assumes nothing.
use mathlib.Core.Path.{sym, ap, ◌∙◌}
use mathlib.Core.List.{◌++◌}
use mathlib.Core.Bool.{false}
use Rattle.showing.specs.Why.{puts_on, spaced_parts, read_parts, fact_parts, told_parts}
use Rattle.showing.proofs.WhyPutting.{puts-append}
use Rattle.showing.proofs.why.put_told.Goals as goal

pub returns : goal.returns
unfolding told_parts
returns g c =
    let facts = fact_parts c.args.rate c.args.r.fact in
    let length = spaced_parts false c.args.r.length in
    c.put_spaced.ensures
    ∙ ap (λ z. puts_on z length) (c.put_fact.ensures ∙ ap (λ z. puts_on z facts) c.put_read.ensures)
    ∙ sym (puts-append (g.P.Page.seen c.args.sheet.now) (read_parts c.args.r.read) (facts ++ length) ∙ puts-append _ facts length)
