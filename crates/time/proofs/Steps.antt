-- What the steps of the code told, in the words of the definitions: the row of a rate, and the nearest count made a timecode.
-- Assumes nothing.
use Rattle.std.specs.Prelude.{pos, negsuc, ℕ, ◌≡◌, refl, Bool, true, false, ℤ, Result, Ok, Err}
use Rattle.std.proofs.Common.{arith, sym, ap, ◌∙◌}
use Rattle.std.specs.Int.Signed.{lt_z}
use Rattle.std.proofs.Common.{le-ltb}
use Rattle.numbers.specs.Sign.{is_neg}
use Rattle.answers.specs.declared.Refusal.{Refusal}
use Rattle.answers.specs.Refusals.{no_such, out_of_bounds, held}
use Rattle.rates.specs.declared.Framerate.{Framerate}
use Rattle.rates.specs.Rates.{is_rate, rate_row, rate_at}
use Rattle.rates.specs.Laws.{rate_at-in, rate_at-out}
use Rattle.timecodes.specs.declared.kinds.Kind.{Kind}
use Rattle.timecodes.specs.Timecode.{placed}
use Rattle.timecodes.specs.Made.{settled}
use Rattle.timecodes.specs.AdmittedLaws.{placed-held}
use Rattle.time.specs.Bounds.{most_seconds, is_fraction}
use Rattle.time.specs.Frames.{ticks_frame, ticks_at, seconds_frame, seconds_at}

-- a row that was given is that of a rate
pub row-told : (rate : ℕ) (row : Framerate) → rate_at rate ≡ Ok row → (is_rate rate ≡ true) × (row ≡ rate_row rate)
row-told rate row h = by (is_rate rate) refl
  where
    by : (t : Bool) → is_rate rate ≡ t → (is_rate rate ≡ true) × (row ≡ rate_row rate)
    by true e = let k = rate_at-in rate e in (e, cc)
    by false e = let k = rate_at-out rate e in let clash : ◌≡◌ {A = ℕ} 0 1 = cc in absurd (omega arith)

pub row-refused : (rate : ℕ) (e : Refusal) → rate_at rate ≡ Err e → (is_rate rate ≡ false) × (e ≡ no_such)
row-refused rate r h = by (is_rate rate) refl
  where
    by : (t : Bool) → is_rate rate ≡ t → (is_rate rate ≡ false) × (r ≡ no_such)
    by true e = let k = rate_at-in rate e in let clash : ◌≡◌ {A = ℕ} 0 1 = cc in absurd (omega arith)
    by false e = let k = rate_at-out rate e in (e, cc)

module _ (kind : Kind) (rate : ℕ) where
  -- ticks, and p/q seconds: refused at no rate, and else the nearest count, held to its bounds
  pub ticks-out : (t : ℤ) → is_rate rate ≡ false → Err no_such ≡ settled kind (ticks_at t rate)
  unfolding ticks_at
  ticks-out t e = rw e

  pub ticks-in : (t : ℤ) (a : Result ℤ Refusal) → is_rate rate ≡ true → held (ticks_frame t rate) ≡ a
      → settled kind (placed rate a) ≡ settled kind (ticks_at t rate)
  unfolding ticks_at
  ticks-in t a e h = rw e (ap (settled kind) (ap (placed rate) (sym h) ∙ placed-held rate (ticks_frame t rate)))

  pub seconds-out : (p : ℤ) (q : ℕ) → is_rate rate ≡ false → Err no_such ≡ settled kind (seconds_at p q rate)
  unfolding seconds_at
  seconds-out p q e = rw e

  pub seconds-beyond :
      (p : ℤ) (q : ℕ) → is_rate rate ≡ true → is_fraction most_seconds p q ≡ false → Err out_of_bounds ≡ settled kind (seconds_at p q rate)
  unfolding seconds_at
  seconds-beyond p q e f = simp (e, f)

  pub seconds-in :
      (p : ℤ) (q : ℕ) (a : Result ℤ Refusal) → is_rate rate ≡ true → is_fraction most_seconds p q ≡ true → held (seconds_frame p q rate) ≡ a
      → settled kind (placed rate a) ≡ settled kind (seconds_at p q rate)
  unfolding seconds_at
  seconds-in p q a e f h = simp (e, f) (ap (settled kind) (ap (placed rate) (sym h) ∙ placed-held rate (seconds_frame p q rate)))

-- whether a number is below zero, by the order of numbers
pub below_zero-is : (z : ℤ) → lt_z z (pos 0) ≡ is_neg z
below_zero-is (pos n) = le-ltb n 0 (omega arith)
below_zero-is (negsuc n) = refl
