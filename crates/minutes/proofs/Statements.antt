-- The statements of specs/Statements.antt, each proved under its name.
-- Assumes nothing.
use mathlib.Core.Path.{◌≡◌, refl, ◌∙◌}
use mathlib.Core.Bool.{Bool, true, false, cond}
use Prim.Native.Nat.{ℕ, ◌+◌, ◌*◌, ◌/◌, ◌%◌}
use native.Mathlib.Omega.{arith}
use borrow.Author.Tests.{eqb-true, eqb-false}
use lib.Dec.{eqb}
use Rattle.labels.specs.Label.{label_count}
use Rattle.labels.specs.LabelLaws.{kept-tenth, kept_frame, all-dropped}
use Rattle.labels.proofs.ByMinutes.{count-by-minutes}
use Rattle.minutes.specs.Minutes.{minute_start}
use Rattle.minutes.proofs.MinutesLaws.{start-closed}
use Rattle.minutes.specs.Statements.{FirstLabel, FirstOfMinute, ListedEntries}

-- the count of the label of second 0 and frames f of a minute
count_at : (m f : ℕ) → label_count 30 2 (m / 60) (m % 60) 0 f ≡ 1798 * m + 2 * (m / 10) + f
count_at m f =
    let whole : 60 * (m / 60) + m % 60 ≡ m = omega arith in
    count-by-minutes 30 2 (omega arith) (m / 60) (m % 60) 0 f ∙ rw whole (omega arith)

first_by : (m : ℕ) (b : Bool) → eqb (m % 10) 0 ≡ b → FirstLabel m (cond b 0 2) (minute_start m)
first_by m true e =
    let tenth = eqb-true (m % 10) 0 e in
    record {
      label = record {
        strict = record { four = refl; minutes = omega arith; seconds = omega arith; frames = omega arith };
        allowed = kept-tenth 2 (m % 60) 0 0 (omega arith);
        count = omega (arith, count_at m 0, start-closed m);
      };
      first = λ k l. absurd (omega arith);
    }
first_by m false e =
    let other = eqb-false (m % 10) 0 e in
    let more : (m + 9) / 10 ≡ m / 10 + 1 = omega arith in
    record {
      label = record {
        strict = record { four = refl; minutes = omega arith; seconds = omega arith; frames = omega arith };
        allowed = kept_frame 2 (m % 60) 0 2 (omega arith);
        count = omega (arith, count_at m 2, start-closed m, more);
      };
      first = λ k l. all-dropped 2 (m % 60) 0 k (omega arith) refl l;
    }

pub first_of_minute : FirstOfMinute
first_of_minute minute = first_by minute (eqb (minute % 10) 0) refl

pub listed_entries : ListedEntries
unfolding minute_start
listed_entries = refl
