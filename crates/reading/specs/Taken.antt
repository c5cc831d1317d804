-- What a text was taken for, as the code hands it on, and the shape that this is (BEHAVIOUR: Text shapes).
-- Assumes nothing.
use Rattle.std.specs.Prelude.{Result, Ok, Err}
use Rattle.answers.specs.declared.Refusal.{Refusal}
use Rattle.reading.specs.declared.taking.Taken.{Taken}
use Rattle.reading.specs.declared.taking.Taken.TheVariants as taken
use Rattle.reading.specs.Shaped.{Shaped, label, footage, refused, label_in, footage_in}

-- a label or a footage as it was scanned, and its shape again
abbrev pub taken_of : Shaped → Result Taken Refusal
taken_of (label minus fields) = Ok (taken.Label (record { minus = minus; fields = fields }))
taken_of (footage minus feet frames perf marker) =
    Ok (taken.Footage (record { minus = minus; feet = feet; frames = frames; perf = perf; marker = marker }))
taken_of (refused e) = Err e

abbrev pub shaped_in : Result Taken Refusal → Shaped
shaped_in (Ok (taken.Label scan)) = label_in scan
shaped_in (Ok (taken.Footage scan)) = footage_in scan
shaped_in (Err e) = refused e
