-- `routing::told::put_found` meets its contract: the reel behind the shards.
-- Assumes nothing.
use mathlib.Core.Path.{ap, ◌∙◌}
use mathlib.Core.List.{[], ◌∷◌}
use mathlib.Core.Bool.{false}
use Rattle.laws.specs.Spelt.{spelt}
use Rattle.written.specs.Parts.{signed_text}
use Rattle.streams.specs.Pieces.{line_end, all_on}
use Rattle.streams.proofs.Pieces.{all_append}
use Rattle.routing.specs.Told.{which_pieces, found_pieces}
use Rattle.routing.proofs.told.put_found.Goals as goal

pub returns : goal.returns
unfolding found_pieces
returns g c =
    let rest = spelt " of reel " ∷ signed_text false c.args.reel ∷ line_end ∷ [] in
    rw (c.put_byte.ensures, c.put_signed.ensures, c.put_text.ensures)
    (ap (λ s. all_on s rest) c.put_which.ensures ∙ all_append (g.P.Page.seen c.args.sheet.now) (which_pieces c.args.shards.first c.args.shards.after) rest)
