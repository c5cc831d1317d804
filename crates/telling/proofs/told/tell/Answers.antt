-- `telling::told::tell` meets its contract: the phrase has room, and is told with the reader's answer.
-- Assumes nothing.
use mathlib.Core.Path.{refl, ap, ◌∙◌}
use native.Mathlib.Omega.{arith}
use lib.ListN.{length-take}
use Rattle.streams.specs.Pieces.{all_on}
use Rattle.telling.proofs.Telling.{never-refused, told-within, told-so}
use Rattle.telling.proofs.told.tell.Goals as goal

pub slice_bounds-line-end : goal.slice_bounds-line-end
slice_bounds-line-end g c =
    told-within c.args.way.options.kind c.args.text.now c.args.way.options.format c.args.way.rate _ refl _ c.why.ensures.answer _ c.in-Ok.is _ c.why.ensures.line

pub slice_bounds-phrase-end : goal.slice_bounds-phrase-end
slice_bounds-phrase-end g c =
    omega (
      arith,
      length-take c.in-Ok.reason.length c.why.new.line,
      told-within c.args.way.options.kind c.args.text.now c.args.way.options.format c.args.way.rate _ refl _ c.why.ensures.answer _ c.in-Ok.is _ c.why.ensures.line,
    )

pub returns-in-Ok : goal.returns-in-Ok
returns-in-Ok g c =
    c.put_reason.ensures
    ∙ ap (all_on (g.P.Page.seen c.args.sheet.now)) (told-so c.args.way c.args.text.now _ _ _ _ refl c.why.ensures.answer c.in-Ok.is c.why.ensures.line)

pub returns-in_default : goal.returns-in_default
returns-in_default g c =
    absurd (never-refused c.args.way.options.kind c.args.text.now c.args.way.options.format c.args.way.rate _ refl _ c.why.ensures.answer _ c.in_default.is)
