-- What a line holds is a timecode that every operation admits, and what refuses it has a number of two digits at most.
-- Assumes nothing.
use Rattle.answers.specs.Causes.{refusal_number}
use Rattle.timecodes.specs.declared.Timecode.{Timecode}
use Rattle.answers.specs.declared.Refusal.{Refusal}
use Rattle.std.specs.Prelude.{None, Result, Ok, Err}
use Prim.Native.Nat.{ℕ, ◌<◌}
use mathlib.Core.Path.{◌≡◌, refl, sym, subst}
use mathlib.Core.Logic.{⊎_elim}
use mathlib.Core.List.{List}
use mathlib.Core.Bool.{Bool, true, false}
use native.Mathlib.Omega.{arith}
use Rattle.timecodes.specs.Admitted.{Valid}
use Rattle.reading.specs.declared.Read.{Read}
use Rattle.reading.specs.declared.Read.TheVariants as read
use Rattle.reading.specs.Answer.{number_of}
use Rattle.reading.specs.Reading.{read_text}
use Rattle.reading.proofs.Statements.{read_valid, numbers_given}
use Rattle.lines.specs.Input.{rate_in, text_in, is_line, line_holds, line_of}
use Rattle.lines.proofs.Begun.{not_line, line-held}

-- a timecode that is admitted, or a number below 100
abbrev pub Sound : Result Timecode Refusal → Type 0
Sound (Ok tc) = Valid tc
Sound (Err e) = refusal_number e < 100

read-sound : (text : List ℕ) (rate : ℕ) (r : Result Read Refusal) → read_text text None rate ≡ r → Sound (line_holds r)
read-sound text rate (Ok (read.Label tc)) e = (read_valid text None rate tc).0 e
read-sound text rate (Ok (read.Footage tc format)) e = (read_valid text None rate tc).1 format e
read-sound text rate (Err f) e =
    subst (λ (x : Result Read Refusal). number_of x < 100) e (⊎_elim (λ h. omega arith) (λ h. omega arith) (numbers_given text None rate))

pub line-sound : (l : List ℕ) → Sound (line_of l)
line-sound l = by (is_line l) refl
  where
    by : (t : Bool) → is_line l ≡ t → Sound (line_of l)
    by true e = subst Sound (sym (line-held l e)) (read-sound (text_in l) (rate_in l) (read_text (text_in l) None (rate_in l)) refl)
    by false e = subst Sound (sym (not_line l e)) (omega arith)
