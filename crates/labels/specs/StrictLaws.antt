-- What the test of a position's label tells, and what makes it (BEHAVIOUR: Positions).
-- Assumes nothing.
use Rattle.std.specs.Prelude.{◌≡◌, true, List, ℕ, ◌<◌, length}
use Rattle.std.proofs.Math.Bool.{and-eq-true_iff}
use Rattle.std.proofs.Common.{lt-ltb, ltb-true}
use Rattle.labels.specs.Label.{hours_in, minutes_in, seconds_in, frames_in, is_strict, Strict}

pub is_strict-told : (timebase : ℕ) (fields : List ℕ) → length fields ≡ 4 → is_strict timebase fields ≡ true
    → (hours_in fields < 24) × Strict timebase fields
unfolding is_strict
is_strict-told timebase fields four h =
    let a = (and-eq-true_iff _ _).0 h in
    let b = (and-eq-true_iff _ _).0 a.1 in
    let c = (and-eq-true_iff _ _).0 b.1 in (
      ltb-true _ _ a.0,
      record { four = four; minutes = ltb-true _ _ b.0; seconds = ltb-true _ _ c.0; frames = ltb-true _ _ c.1 },
    )

pub is_strict-in : (timebase : ℕ) (fields : List ℕ) → hours_in fields < 24 → Strict timebase fields → is_strict timebase fields ≡ true
unfolding is_strict
is_strict-in timebase fields h s =
    rw (
      lt-ltb (hours_in fields) 24 h,
      lt-ltb (minutes_in fields) 60 s.minutes,
      lt-ltb (seconds_in fields) 60 s.seconds,
      lt-ltb (frames_in fields) timebase s.frames,
    )
