-- Bounds (BEHAVIOUR: Labels and counts): how large numbers, counts and corrections become, so that no sum or product wraps.
-- Assumes nothing.
use Rattle.std.specs.Prelude.{◌≡◌, true, List, ℕ, ◌+◌, ◌*◌, ◌-◌, ◌/◌, ◌%◌, ◌≤◌, ◌<◌}
use Rattle.std.proofs.Common.{mul-le-mul, div-le_self, arith, lt-ltb, ltb-true}
use Rattle.std.proofs.Math.Bool.{and-eq-true_iff}
use Rattle.std.proofs.Math.Nat.{mod-le}
use Rattle.answers.specs.Refusals.{beyond}
use Rattle.labels.specs.Label.{hours_in, minutes_in, seconds_in, frames_in, is_short, Short}
use Rattle.labels.specs.Sections.{label_number, dropped_before}

module _ (timebase : ℕ) (small : timebase ≤ 60) where
  -- fields of at most 9 digits have a number below 10 ^ 15
  pub number_short : (fields : List ℕ) → Short fields → label_number timebase fields < 1_000_000_000_000_000
  number_short fields x =
      let s : 60 * (60 * hours_in fields + minutes_in fields) + seconds_in fields ≤ 3_661_000_000_000 = omega arith in
      omega (arith, mul-le-mul s small)

-- the dropped labels' minutes are at most ten times the count
pub minutes-le : (n tens w D : ℕ) → 9 * (n / tens) + (n % tens - D) / w ≤ 10 * n
minutes-le n tens w D = omega (arith, div-le_self n tens, div-le_self (n % tens - D) w, mod-le n tens)

pub dropped-short : (timebase D n : ℕ) → timebase ≤ 60 → D < timebase → dropped_before timebase D n ≤ 600 * n
unfolding dropped_before
dropped-short timebase D n small d =
    let l : D ≤ 60 = omega arith in
    omega (arith, mul-le-mul l (minutes-le n (600 * timebase - 9 * D) (60 * timebase - D) D))

-- ---- fields of at most 9 digits, by the test
pub is_short-told : (fields : List ℕ) → is_short fields ≡ true → Short fields
unfolding is_short
is_short-told fields e =
    let h = (and-eq-true_iff _ _).0 e in
    let m = (and-eq-true_iff _ _).0 h.1 in
    let s = (and-eq-true_iff _ _).0 m.1 in
    record { hours = ltb-true _ _ h.0; minutes = ltb-true _ _ m.0; seconds = ltb-true _ _ s.0; frames = ltb-true _ _ s.1 }

pub is_short-in : (fields : List ℕ) → Short fields → is_short fields ≡ true
unfolding is_short
is_short-in fields x =
    rw (
      lt-ltb (hours_in fields) beyond x.hours,
      lt-ltb (minutes_in fields) beyond x.minutes,
      lt-ltb (seconds_in fields) beyond x.seconds,
      lt-ltb (frames_in fields) beyond x.frames,
    )
