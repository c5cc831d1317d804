-- The loop of `check_list`: n records were counted, and the rest of the list gives the others.
-- Assumes nothing.
use Rattle.answers.specs.declared.Refusal.{Refusal}
use Rattle.std.specs.Prelude.{Result, Ok, Err}
use Prim.Native.Nat.{ℕ, ◌+◌}
use mathlib.Core.Path.{◌≡◌, refl, ap}
use native.Mathlib.Omega.{arith}
use lib.ListN.{length}
use Rattle.shot_lists.specs.declared.records.Record.{Record}
use Rattle.shot_lists.specs.Reading.{Reading, AllOf, FaultOf, and_then, checked_of}

abbrev pub counted : ℕ → Reading → Result ℕ Refusal
counted n (AllOf rs) = Ok (n + length rs)
counted n (FaultOf e) = Err e

pub counted-more : (n : ℕ) (r : Record) (t : Reading) → counted n (and_then r t) ≡ counted (n + 1) t
counted-more n r (AllOf rs) = ap Ok (omega arith)
counted-more n r (FaultOf e) = refl

pub counted-zero : (t : Reading) → counted 0 t ≡ checked_of t
counted-zero (AllOf rs) = ap Ok (omega arith)
counted-zero (FaultOf e) = refl
