-- The label that is shown for a dropped one is the first of its minute that is allowed.
-- Assumes nothing.
use Prim.Native.Nat.{ℕ, zero, suc, ◌+◌, ◌*◌, ◌%◌, ◌≤◌, ◌<◌}
use native.Mathlib.Omega.{arith}
use mathlib.Core.Path.{◌≡◌, refl, sym, ap, ◌∙◌}
use mathlib.Core.Bool.{Bool, true, false}
use mathlib.Core.List.{List}
use lib.Dec.{T}
use mathlib.Core.Path.{subst}
use Rattle.rates.specs.Rates.{is_rate, rate_row, drop_frames}
use Rattle.rates.proofs.Sound.{drop-small}
use Rattle.labels.specs.Label.{minutes_in, seconds_in, frames_in, dropped_in}
use Rattle.labels.specs.LabelLaws.{kept-tenth, kept_frame, kept-past}
use Rattle.labels.specs.Sections.{label_number}
use Rattle.reasons.specs.Facts.{first_label}
use Rattle.reasons.specs.Holds.{fields_of, minute_of, FirstOfMinute}

-- a dropped label's minute is no multiple of 10
no-tenth : (D : ℕ) (fields : List ℕ) → dropped_in D fields ≡ true → 0 < minutes_in fields % 10
no-tenth D fields e = by (minutes_in fields % 10) refl
  where
    by : (k : ℕ) → minutes_in fields % 10 ≡ k → 0 < k
    by zero z = absurd (subst T (sym e ∙ kept-tenth D (minutes_in fields) (seconds_in fields) (frames_in fields) z) tt)
    by (suc k) z = omega arith

-- of two labels of one minute, one at frame D of its first second is not behind one that is allowed
not_behind : (timebase D M : ℕ) (other : List ℕ) → D ≤ timebase → minute_of other ≡ M → 0 < M % 10 → dropped_in D other ≡ false
    → 60 * M * timebase + D ≤ label_number timebase other
not_behind timebase D M other d m tenth kept =
    let past = kept-past timebase D (minutes_in other) (seconds_in other) (frames_in other) d kept (omega arith) in
    let same = ap (λ (k : ℕ). k * timebase) m in
    omega arith

pub first_of_minute : (rate : ℕ) (minus : Bool) (fields : List ℕ) → is_rate rate ≡ true → dropped_in (drop_frames rate) fields ≡ true
    → FirstOfMinute rate minus fields (first_label (drop_frames rate) minus fields)
unfolding first_label
first_of_minute rate minus fields r e =
    let D = drop_frames rate in
    let small = drop-small rate r in
    let tenth = no-tenth D fields e in
    record {
      sign = refl;
      strict = record { four = refl; minutes = omega arith; seconds = omega arith; frames = small };
      allowed = kept_frame D (minutes_in fields % 60) 0 D (omega arith);
      minute = omega arith;
      first = λ other s kept same.
          let M : ℕ = minute_of (fields_of (first_label D minus fields)) in
          let M-is : M ≡ minute_of fields = omega arith in
          let behind = not_behind (rate_row rate).timebase D M other (omega arith) (same ∙ sym M-is) (omega arith) kept in
          omega arith;
    }
