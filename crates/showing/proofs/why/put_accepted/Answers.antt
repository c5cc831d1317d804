-- `showing::why::put_accepted` meets its contract: two zeros, and the count with its mark behind them.
-- Assumes nothing.
use mathlib.Core.Path.{ap, ◌∙◌}
use mathlib.Core.List.{[], ◌∷◌, ◌++◌}
use Rattle.timecodes.specs.Kinds.{is_position}
use Rattle.showing.specs.Shown.{count_text, parts_on}
use Rattle.showing.specs.Why.{puts_on, mark_parts, accepted_parts}
use Rattle.showing.proofs.WhyPutting.{count-shown}
use Rattle.showing.proofs.why.put_accepted.Goals as goal

pub returns : goal.returns
unfolding accepted_parts puts_on
returns g c =
    c.put_shown.ensures ∙ ap (parts_on _) c.one_count.ensures ∙ count-shown _ c.args.tc ∙ ap (λ z. puts_on z (mark_parts (is_position c.args.tc.kind) ++ (count_text c.args.tc.count ∷ []))) c.put_text.ensures
