-- The seconds of a timecode are within the bounds of seconds, and times the frames of a second they are its count.
-- Assumes nothing.
use Prim.Native.Nat.{ℕ, ◌*◌}
use mathlib.Core.Path.{◌≡◌, sym, ◌∙◌, ap}
use mathlib.Core.Bool.{true}
use native.Mathlib.Nat.{mul_comm, mul-le-mul}
use native.Mathlib.Omega.{arith}
use lib.IntN.{ℤ, pos, nat_abs, ◌*ℤ◌}
use Rattle.numbers.specs.DistanceLaws.{abs-product}
use Rattle.numbers.specs.Lowest.{Lowest}
use Rattle.numbers.specs.LowestLaws.{lowest-le}
use Rattle.numbers.specs.MultipleLaws.{mul-twice, mul-cancel}
use Rattle.rates.specs.Rates.{rate_row, frame_ticks, second_ticks}
use Rattle.rates.proofs.Sound.{sound}
use Rattle.timecodes.specs.declared.Timecode.{Timecode}
use Rattle.timecodes.specs.Admitted.{Valid}
use Rattle.timecodes.specs.AdmittedLaws.{valid-count-le}
use Rattle.timecodes.specs.Instant.{instant}
use Rattle.time.specs.Bounds.{most_seconds, is_fraction}
use Rattle.time.specs.BoundsLaws.{is_fraction-in}
use Rattle.time.specs.Seconds.{InSeconds}

module _ (tc : Timecode) (p : ℤ) (q : ℕ) (b : Valid tc) (x : InSeconds (instant tc) p q) where
  pub seconds-whole : p *ℤ pos (rate_row tc.rate).numerator ≡ tc.count *ℤ pos (q * (rate_row tc.rate).denominator)
  unfolding instant
  seconds-whole =
      let n = (rate_row tc.rate).numerator in
      let d = (rate_row tc.rate).denominator in
      let t = frame_ticks tc.rate in
      mul-cancel (p *ℤ pos n) (tc.count *ℤ pos (q * d)) second_ticks (omega arith)
      (mul-twice p n second_ticks
      ∙ ap (λ (k : ℕ). p *ℤ pos k) (mul_comm n second_ticks)
      ∙ sym (mul-twice p second_ticks n)
      ∙ ap (λ (z : ℤ). z *ℤ pos n) (x.exact ∙ mul-twice tc.count t q)
      ∙ mul-twice tc.count (t * q) n
      ∙ ap (λ (k : ℕ). tc.count *ℤ pos k) (omega (arith, ap (λ (k : ℕ). q * k) (sound tc.rate b.rate).consistent))
      ∙ sym (mul-twice tc.count (q * d) second_ticks))

  -- so p/q is also count times denominator over numerator, in lowest terms
  by_frames : Lowest (nat_abs tc.count * (rate_row tc.rate).denominator) (rate_row tc.rate).numerator (nat_abs p) q
  by_frames =
      record {
        same =
            omega (
              arith,
              ap nat_abs seconds-whole,
              abs-product p (pos (rate_row tc.rate).numerator),
              abs-product tc.count (pos (q * (rate_row tc.rate).denominator)),
            );
        positive = x.lowest.positive;
        coprime = x.lowest.coprime;
      }

  pub seconds-within : is_fraction most_seconds p q ≡ true
  seconds-within =
      let row = sound tc.rate b.rate in
      let least = lowest-le _ _ _ _ row.numerator_pos by_frames in
      let most = mul-le-mul (valid-count-le tc b) row.denominator_most in
      is_fraction-in most_seconds p q
      (record { top = omega (arith, most, least.0); least = x.lowest.positive; bottom = omega (arith, least.1, row.numerator_most) })
