-- What an answer tells of a runtime's text: each refusal's number its cause, and a count that it is the nearest frame.
-- Assumes nothing.
use Rattle.timecodes.specs.declared.Timecode.{Timecode}
use Rattle.answers.specs.declared.Refusal.{Refusal}
use Rattle.std.specs.Prelude.{Result, Ok, Err}
use Prim.Native.Nat.{ℕ, zero, suc, ◌<◌}
use native.Mathlib.Omega.{arith}
use mathlib.Core.Path.{◌≡◌, refl, sym, subst}
use mathlib.Core.List.{List}
use mathlib.Core.Bool.{Bool, true, false}
use lib.IntN.{ℤ}
use Rattle.answers.specs.Causes.{refusal_number}
use Rattle.answers.specs.Refusals.{is_count, held}
use Rattle.answers.specs.Laws.{held_in, held_out}
use Rattle.rates.specs.Rates.{is_rate}
use Rattle.timecodes.specs.Timecode.{placed, number_of}
use Rattle.scanner.specs.declared.text.Misfit.{Misfit}
use Rattle.scanner.specs.declared.text.Misfit.TheVariants.{TooLong, NoShape}
use Rattle.runtime_scan.specs.declared.RuntimeScan.{RuntimeScan}
use Rattle.scanner.specs.Shapes.{TextParts}
use Rattle.runtime_scan.specs.Shape.{RuntimeShape, HasRuntimeShape}
use Rattle.runtime_scan.specs.Runtime.{runtime_scan}
use Rattle.runtime_scan.proofs.Statements.{runtime_fits, runtime-fit-long, runtime-fit-none, runtime-place-long}
use Rattle.runtime_reading.specs.Reading.{read_runtime}
use Rattle.runtime_reading.specs.ReadingLaws.{no_rate}
use Rattle.runtime_reading.specs.Statements.{RuntimeCount, CountOut}
use Rattle.runtime_reading.proofs.Gives.{frame, counted, gives_none, gives-long, gives-count}

module _ (l : List ℕ) (rate : ℕ) where
  -- what each number tells; 3 and 4 are not given; none has a place
  abbrev pub Cause : ℕ → Type 0
  Cause zero = Unit {0}
  Cause (suc zero) = (p : TextParts) → ¬ RuntimeShape l p
  Cause (suc (suc zero)) = HasRuntimeShape l true
  Cause (suc (suc (suc zero))) = ⊥
  Cause (suc (suc (suc (suc zero)))) = ⊥
  Cause (suc (suc (suc (suc (suc zero))))) = CountOut l rate
  Cause (suc (suc (suc (suc (suc (suc n)))))) = is_rate rate ≡ false

  abbrev pub Told : Result Timecode Refusal → Type 0
  Told (Ok tc) = (tc.rate ≡ rate) × (RuntimeCount l rate tc.count × (is_count tc.count ≡ true))
  Told (Err e) = Cause (refusal_number e) × (e.place ≡ 0)

  by_count : (z : ℤ) → RuntimeCount l rate z → (t : Bool) → is_count z ≡ t → Told (placed rate (held z))
  by_count z x true e = subst (λ a. Told (placed rate a)) (sym (held_in z e)) (refl, (x, e))
  by_count z x false e = subst (λ a. Told (placed rate a)) (sym (held_out z e)) (record { z = z; count = x; out = e }, refl)

  by-fit : is_rate rate ≡ true → (v : Result RuntimeScan Misfit) → runtime_scan l ≡ v → Told (read_runtime l rate)
  by-fit r (Ok scan) e =
      let h = (runtime_fits l).0 (scan, e) in
      let x = counted l rate r h.parts h.shape h.digits in
      let z = frame l rate r h.parts in
      subst Told (sym (gives-count l rate r z x)) (by_count z x (is_count z) refl)
  by-fit r (Err (TooLong place)) e =
      let h = runtime-place-long l place (runtime-fit-long l place e) in subst Told (sym (gives-long l rate r h)) (h, refl)
  by-fit r (Err (NoShape stop)) e = let none = runtime-fit-none l stop e in subst Told (sym (gives_none l rate r none)) (none, refl)

  by-rate : (t : Bool) → is_rate rate ≡ t → Told (read_runtime l rate)
  by-rate true r = by-fit r (runtime_scan l) refl
  by-rate false r = subst Told (sym (no_rate l rate r)) (r, refl)

  pub told : Told (read_runtime l rate)
  told = by-rate (is_rate rate) refl

  number_by : (a : Result Timecode Refusal) (n : ℕ) → Told a → 0 < n → number_of a ≡ n → Cause n
  number_by (Ok tc) n t h e = absurd (omega arith)
  number_by (Err f) n t h e = subst Cause e t.0

  -- a refusal's number tells its cause
  pub cause : (n : ℕ) → 0 < n → number_of (read_runtime l rate) ≡ n → Cause n
  cause n h e = number_by (read_runtime l rate) n told h e
