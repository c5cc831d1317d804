-- The statements of specs/Statements.antt: the fold finds the lines of the grammar, and the buffer stands for the fold.
-- Assumes nothing.
use mathlib.Core.Path.{refl, ap, ◌∙◌}
use mathlib.Core.List.{[], map}
use lib.ListN.{length}
use Rattle.streams.specs.Parting.{lines_of}
use Rattle.streams.specs.Gathering.{no_byte, kept_of}
use Rattle.streams.specs.Statements.{TwoChunks, AnyChunks, FoldFinds, OneReading, LinesHanded}
use Rattle.streams.proofs.Parting as parting
use Rattle.streams.proofs.Standing.{stands-none, handed-is}

pub two_chunks : TwoChunks
two_chunks = parting.two_chunks

pub any_chunks : AnyChunks
any_chunks = parting.any_chunks

pub fold_finds : FoldFinds
fold_finds = parting.fold_finds

pub one_reading : OneReading
one_reading = parting.one_reading

pub lines_handed : LinesHanded
unfolding lines_of
lines_handed buffer text ls lines =
    handed-is text (length buffer) buffer no_byte [] (stands-none (length buffer) buffer refl)
    ∙ ap (map (kept_of (length buffer))) (parting.one_reading text ls lines)
