-- The statements of specs/Statements.antt, proved: by what an answer tells of its conditions, and the laws of the nearest.
-- Assumes nothing.
use Rattle.std.specs.Prelude.{Result, Ok, Err}
use Prim.Native.Nat.{ℕ, ◌*◌}
use mathlib.Core.Path.{◌≡◌, sym, ◌∙◌, ap, subst}
use native.Mathlib.Nat.{mul-pos}
use native.Mathlib.Omega.{arith}
use lib.IntN.{ℤ, pos, ◌*ℤ◌}
use Rattle.numbers.specs.Nearest.{Nearest, nearest_z}
use Rattle.numbers.specs.NearestSignedLaws.{exact}
use Rattle.numbers.proofs.Statements.{nearest_is}
use Rattle.answers.specs.declared.Refusal.{Refusal}
use Rattle.answers.specs.Order.{Clear}
use Rattle.answers.specs.OrderLaws.{unless-told, unless-clear, not_in, in-not}
use Rattle.answers.specs.Refusals.{is_count}
use Rattle.rates.specs.Rates.{rate_row, frame_ticks}
use Rattle.rates.proofs.Sound.{sound, frame_ticks-pos}
use Rattle.timecodes.specs.declared.Timecode.{Timecode}
use Rattle.timecodes.specs.Timecode.{timecode}
use Rattle.timecodes.specs.Made.{settled}
use Rattle.timecodes.specs.Admitted.{admits, Valid}
use Rattle.timecodes.specs.AdmittedLaws.{admits-valid, valid-count, at_told}
use Rattle.timecodes.specs.KindLaws.{made-own}
use Rattle.timecodes.specs.Instant.{instant}
use Rattle.time.specs.Bounds.{most_seconds}
use Rattle.time.specs.BoundsLaws.{is_fraction-told}
use Rattle.time.specs.Frames.{ticks_frame, ticks_when, ticks_at, seconds_frame, seconds_when, seconds_at}
use Rattle.time.specs.Ticks.{ticks_of}
use Rattle.time.specs.SecondsLaws.{seconds-valid, seconds-told}
use Rattle.time.specs.Statements.{TicksNearest, SecondsNearest, TicksBack, SecondsBack, TicksBackAs, SecondsBackAs, SecondsInstant}
use Rattle.time.proofs.Back.{seconds-whole, seconds-within}

pub ticks_nearest : TicksNearest
unfolding ticks_at
ticks_nearest t rate tc h =
    let told = at_told (ticks_when t rate) (timecode (ticks_frame t rate) rate) tc h in (
      ap (λ (k : Timecode). k.rate) (sym told.1),
      subst (λ (k : Timecode). Nearest t (frame_ticks rate) k.count) told.1
          (nearest_is t (frame_ticks rate) (frame_ticks-pos rate (not_in _ told.0.0))),
    )

pub seconds_nearest : SecondsNearest
unfolding seconds_at
seconds_nearest p q rate tc h =
    let n = p *ℤ pos (rate_row rate).numerator in
    let d = q * (rate_row rate).denominator in
    let told = at_told (seconds_when p q rate) (timecode (seconds_frame p q rate) rate) tc h in
    let rated = not_in _ told.0.0 in
    let within = is_fraction-told most_seconds p q (not_in _ told.0.1.0) in (
      ap (λ (k : Timecode). k.rate) (sym told.1),
      subst (λ (k : Timecode). Nearest n d k.count) told.1 (nearest_is n d (mul-pos within.least (sound rate rated).denominator_pos)),
    )

-- what an answer of ticks tells
module _ (tc : Timecode) (t : ℤ) (h : ticks_of tc ≡ Ok t) where
  ticks-apart : (e : Refusal) → ◌≡◌ {A = Result ℤ Refusal} (Err e) (Ok t) → ⊥
  ticks-apart e k = let clash : ◌≡◌ {A = ℕ} 0 1 = cc in omega arith

  ticks-told : Clear (admits tc) × (◌≡◌ {A = Result ℤ Refusal} (Ok (instant tc)) (Ok t))
  unfolding ticks_of
  ticks-told = unless-told Err (admits tc) (Ok (instant tc)) (Ok t) ticks-apart h

  ticks-valid : Valid tc
  ticks-valid = admits-valid tc ticks-told.0

  ticks-are : t ≡ instant tc
  ticks-are = let e = ticks-told.1 in cc

-- an exact frame is its count
module _ (z count : ℤ) (rate : ℕ) (same : z ≡ count) where
  same-timecode : ◌≡◌ {A = Result Timecode Refusal} (Ok (timecode z rate)) (Ok (timecode count rate))
  same-timecode = ap (λ (k : ℤ). Ok (timecode k rate)) same

pub ticks_back : TicksBack
unfolding ticks_at instant
ticks_back tc t h =
    let v = ticks-valid tc t h in
    let n = frame_ticks tc.rate in
    let same : ticks_frame t tc.rate ≡ tc.count =
    ap (λ (z : ℤ). nearest_z z n) (ticks-are tc t h) ∙ exact tc.count n (frame_ticks-pos tc.rate v.rate) in
    unless-clear Err (ticks_when t tc.rate) (Ok (timecode (ticks_frame t tc.rate) tc.rate))
    (in-not v.rate, (in-not (ap is_count same ∙ valid-count tc v), tt))
    ∙ same-timecode (ticks_frame t tc.rate) tc.count tc.rate same

pub seconds_back : SecondsBack
unfolding seconds_at
seconds_back tc p q h =
    let v = seconds-valid tc p q h in
    let x = seconds-told tc p q h in
    let d = q * (rate_row tc.rate).denominator in
    let above = mul-pos x.lowest.positive (sound tc.rate v.rate).denominator_pos in
    let same : seconds_frame p q tc.rate ≡ tc.count =
    ap (λ (z : ℤ). nearest_z z d) (seconds-whole tc p q v x) ∙ exact tc.count d above in
    unless-clear Err (seconds_when p q tc.rate) (Ok (timecode (seconds_frame p q tc.rate) tc.rate))
    (in-not v.rate, (in-not (seconds-within tc p q v x), (in-not (ap is_count same ∙ valid-count tc v), tt)))
    ∙ same-timecode (seconds_frame p q tc.rate) tc.count tc.rate same

pub ticks_back_as : TicksBackAs
ticks_back_as tc t h =
    let v = ticks-valid tc t h in
    ap (settled tc.kind) (ticks_back tc t h) ∙ ap Ok (made-own tc.kind tc.count tc.rate v.rate v.within)

pub seconds_back_as : SecondsBackAs
seconds_back_as tc p q h =
    let v = seconds-valid tc p q h in
    ap (settled tc.kind) (seconds_back tc p q h) ∙ ap Ok (made-own tc.kind tc.count tc.rate v.rate v.within)

pub seconds_instant : SecondsInstant
seconds_instant tc t p q h k =
    (seconds-told tc p q k).exact ∙ ap (λ (z : ℤ). z *ℤ pos q) (sym (ticks-are tc t h))
