-- The loop of `measure`: n bytes were counted, and the rest of the list gives the others.
-- Assumes nothing.
use Rattle.std.specs.Prelude.{Result, Ok, Err}
use Prim.Native.Nat.{ℕ, ◌+◌}
use mathlib.Core.Path.{◌≡◌, refl, ap}
use mathlib.Core.List.{[]}
use native.Mathlib.Omega.{arith}
use native.Mathlib.Nat.{add-zero}
use lib.ListN.{length, length-append}
use Rattle.answers.specs.declared.Refusal.{Refusal}
use Rattle.written.specs.Written.{NoText}
use Rattle.shot_lists.specs.declared.records.Record.{Record}
use Rattle.shot_lists.specs.Reading.{Reading, AllOf, FaultOf, and_then}
use Rattle.shot_writer.specs.ListText.{record_bytes, list_bytes, draft_of, measured_of}

abbrev pub measured : ℕ → Reading → Result ℕ Refusal
measured n (AllOf rs) = Ok (n + length (list_bytes rs))
measured n (FaultOf e) = Err e

pub measured-more : (n : ℕ) (r : Record) (t : Reading) → measured n (and_then r t) ≡ measured (n + length (record_bytes r)) t
unfolding list_bytes
measured-more n r (AllOf rs) = ap Ok (omega (arith, length-append (record_bytes r) (list_bytes rs)))
measured-more n r (FaultOf e) = refl

pub measured-zero : (t : Reading) → measured 0 t ≡ measured_of t
measured-zero (AllOf rs) = ap Ok (omega arith)
measured-zero (FaultOf e) = refl

pub nothing_left : (n : ℕ) → measured n (AllOf []) ≡ Ok n
unfolding list_bytes
nothing_left n = ap Ok (add-zero n)

-- ---- what was measured tells of the list

pub was-refused : (t : Reading) (e : Refusal) → Err e ≡ measured_of t → NoText e ≡ draft_of t
was-refused (AllOf rs) e h = let z : ◌≡◌ {A = ℕ} 0 1 = cc in absurd (omega arith)
was-refused (FaultOf x) e h = let same : e ≡ x = cc in ap NoText same
