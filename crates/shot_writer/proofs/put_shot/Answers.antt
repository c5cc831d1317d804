-- `shot_writer::put_shot` meets its contract: first and end, each lent the rest of the part, stand right behind what is there.
-- Assumes nothing.
use native.Mathlib.Omega.{arith}
use mathlib.Core.Path.{refl, sym, ap, ◌∙◌}
use mathlib.Core.List.{[], ◌∷◌}
use mir.Facts.{to_z-of_z}
use Rattle.lent.specs.Line.{laid}
use Rattle.lent.proofs.Laws.{laid_out, laid-three}
use Rattle.low_bytes.specs.LowBytes.{signed_bytes, twos_of}
use Rattle.low_bytes.specs.Laws.{low-length}
use Rattle.shot_lists.specs.declared.records.Record.TheVariants.{Shot}
use Rattle.shot_writer.specs.ListText.{record_bytes}
use Rattle.shot_writer.proofs.Lengths.{shot-long}
use Rattle.shot_writer.proofs.put_shot.Goals as goal

pub returns-then-part-lt9 : goal.returns-then-part-lt9
returns-then-part-lt9 c =
    sym (laid_out c.args.part.now (record_bytes (Shot c.args.first c.args.end)) (omega (arith, shot-long c.args.first c.args.end)))

pub returns : goal.returns
unfolding record_bytes
returns c =
    laid-three c.args.part.now _ _ _ (2 ∷ []) (signed_bytes 4 c.args.first) (signed_bytes 4 c.args.end) 1 5
    (omega (arith, shot-long c.args.first c.args.end))
    c.put_byte.ensures
    refl
    (c.put_signed.ensures ∙ ap (laid _) (ap (signed_bytes 4) (to_z-of_z c.ranges.first)))
    (omega (arith, low-length 4 (twos_of 4 c.args.first)))
    (c.put_signed-2.ensures ∙ ap (laid _) (ap (signed_bytes 4) (to_z-of_z c.ranges.end)))
