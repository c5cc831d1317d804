-- `routing::told::put_refused` meets its contract: the phrase has room, and is told with the number.
-- Assumes nothing.
use mathlib.Core.Path.{refl, ap, ◌∙◌}
use native.Mathlib.Omega.{arith}
use Rattle.std.proofs.lemmas.List.{length-take}
use Rattle.streams.specs.Pieces.{all_on}
use Rattle.phrases.specs.Phrases.{phrase_of}
use Rattle.routing.specs.Told.{reason_pieces}
use Rattle.routing.proofs.Putting.{never-refused, phrase-within, phrase-there}
use Rattle.routing.proofs.told.put_refused.Goals as goal

pub slice_bounds-line-end : goal.slice_bounds-line-end
slice_bounds-line-end g c =
    phrase-within c.number.result _ refl _ c.write_phrase.ensures.answer _ c.in-Ok.is _ c.write_phrase.ensures.line

pub slice_bounds-phrase-end : goal.slice_bounds-phrase-end
slice_bounds-phrase-end g c =
    omega (arith, length-take c.in-Ok.n c.write_phrase.new.line, phrase-within c.number.result _ refl _ c.write_phrase.ensures.answer _ c.in-Ok.is _ c.write_phrase.ensures.line)

pub returns-in-Ok : goal.returns-in-Ok
returns-in-Ok g c =
    c.put_reason.ensures
    ∙ ap (λ phrase. all_on (g.P.Page.seen c.args.sheet.now) (reason_pieces c.args.e phrase))
    (phrase-there c.number.result _ refl _ c.write_phrase.ensures.answer _ c.in-Ok.is _ c.write_phrase.ensures.line ∙ ap phrase_of c.number.ensures)

pub returns-in_default : goal.returns-in_default
returns-in_default g c =
    absurd (never-refused c.number.result _ refl _ c.write_phrase.ensures.answer _ c.in_default.is)
