-- `showing::why::show_why` meets its contract: each part goes on from what the one before it left.
-- Assumes nothing.
use mathlib.Core.Path.{sym, ap, ◌∙◌}
use mathlib.Core.List.{[], ◌∷◌}
use Rattle.streams.specs.Sheet.{put_on}
use Rattle.showing.specs.Why.{puts_on, reasoned_parts, why_on}
use Rattle.showing.proofs.WhyPutting.{puts-append}
use Rattle.showing.proofs.why.show_why.Goals as goal

pub returns : goal.returns
unfolding why_on puts_on
returns g c =
    let line = c.args.line.now in
    c.put_byte-2.ensures
    ∙ ap (λ z. put_on z (10 ∷ [])) (c.put_text.ensures ∙ ap (λ z. put_on z line) (c.put_byte.ensures ∙ ap (λ z. put_on z (32 ∷ [])) c.put_reasoned.ensures))
    ∙ sym (puts-append (g.P.Page.seen c.args.sheet.now) (reasoned_parts c.args.rate c.args.w) ((32 ∷ []) ∷ line ∷ (10 ∷ []) ∷ []))
