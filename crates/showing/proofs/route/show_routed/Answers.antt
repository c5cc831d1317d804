-- `showing::route::show_routed` meets its contract: the answer, and the line's end behind it.
-- Assumes nothing.
use mathlib.Core.Path.{sym, ap, ◌∙◌}
use mathlib.Core.List.{[], ◌∷◌}
use Rattle.streams.specs.Sheet.{put_on}
use Rattle.showing.specs.Why.{puts_on}
use Rattle.showing.specs.Routes.{routed_parts, routed_on}
use Rattle.showing.proofs.WhyPutting.{puts-append}
use Rattle.showing.proofs.route.show_routed.Goals as goal

pub returns : goal.returns
unfolding routed_on puts_on
returns g c =
    c.put_byte.ensures
    ∙ ap (λ z. put_on z (10 ∷ [])) c.put_routed.ensures
    ∙ sym (puts-append (g.P.Page.seen c.args.sheet.now) (routed_parts c.args.a) ((10 ∷ []) ∷ []))
