-- Time, out (BEHAVIOUR: Time): ticks exactly.
-- Assumes nothing.
use Rattle.answers.specs.declared.Refusal.{Refusal}
use Rattle.std.specs.Prelude.{ℤ, pos, Result, Ok, Err}
pub use Rattle.answers.specs.Refusals.{number_of}
use Rattle.answers.specs.Order.{unless}
use Rattle.timecodes.specs.declared.Timecode.{Timecode}
use Rattle.timecodes.specs.Admitted.{admits}
use Rattle.timecodes.specs.Instant.{instant}

-- the ticks of a timecode: 6, 5, else its instant
unfoldable pub ticks_of : Timecode → Result ℤ Refusal
ticks_of tc = unless Err (admits tc) (Ok (instant tc))

-- the ticks of an answer (a refusal's are 0)
abbrev pub ticks_in : Result ℤ Refusal → ℤ
ticks_in (Ok t) = t
ticks_in (Err e) = pos 0
