-- The count with no difference in it, and what it bounds: each field, and so the fields that are in bounds (BEHAVIOUR: Labels and counts).
-- Assumes nothing.
use Rattle.std.specs.Prelude.{◌≡◌, true, false, List, ℕ, ◌+◌, ◌*◌, ◌-◌, ◌/◌, ◌≤◌, ◌<◌}
use Rattle.std.proofs.Common.{sym, ◌∙◌, mul-le-mul_left, mul-le-mul_right, arith}
use Rattle.std.proofs.Math.Nat.{mul-sub}
use Rattle.std.proofs.Math.Decide.{dec_lt}
use Rattle.answers.specs.Refusals.{most_count}
use Rattle.labels.specs.Label.{hours_in, minutes_in, seconds_in, frames_in, count_in, is_short, Short, LabelOf, label_count}
use Rattle.labels.specs.LabelLaws.{minute-whole}
use Rattle.labels.specs.BoundLaws.{is_short-in}

-- ---- the count
module _ (timebase D : ℕ) (d : D ≤ timebase) where
  module _ (hours minutes seconds frames : ℕ) where
    -- each minute counts 60 x timebase - D, each tenth one D more
    pub count-by-minutes :
        label_count timebase D hours minutes seconds frames
        ≡ (60 * timebase - D) * (60 * hours + minutes) + D * ((60 * hours + minutes) / 10) + (seconds * timebase + frames)
    unfolding label_count
    count-by-minutes =
        let M : ℕ = 60 * hours + minutes in
        let l : M / 10 ≤ M = omega arith in
        omega (arith, mul-sub D M (M / 10), mul-le-mul_left D l, minute-whole timebase D d M)

-- each field is at most the count
pub fields_le :
    (timebase D : ℕ) (fields : List ℕ) → D < timebase
    → (hours_in fields ≤ count_in timebase D fields) × (minutes_in fields ≤ count_in timebase D fields)
    × (seconds_in fields ≤ count_in timebase D fields) × (frames_in fields ≤ count_in timebase D fields)
fields_le timebase D fields d =
    let w : 1 ≤ 60 * timebase - D = omega arith in
    let t : 1 ≤ timebase = omega arith in
    let c = count-by-minutes timebase D (omega arith) (hours_in fields) (minutes_in fields) (seconds_in fields) (frames_in fields) in
    let m = mul-le-mul_right (60 * hours_in fields + minutes_in fields) w in
    let s = mul-le-mul_left (seconds_in fields) t in
    (omega arith, omega arith, omega arith, omega arith)

-- a label's hours are at most its count
pub hours-le : (timebase D n : ℕ) (fields : List ℕ) → D < timebase → LabelOf timebase D n fields → hours_in fields ≤ n
hours-le timebase D n fields d x = omega (arith, x.count, (fields_le timebase D fields d).0)

-- fields that are longer have a count above the largest
pub is_short-out :
    (timebase D : ℕ) (fields : List ℕ) → D < timebase → is_short fields ≡ false → most_count < count_in timebase D fields
is_short-out timebase D fields d e = by (dec_lt most_count (count_in timebase D fields))
  where
    by : Dec (most_count < count_in timebase D fields) → most_count < count_in timebase D fields
    by (yes l) = l
    by (no f) =
        let x = fields_le timebase D fields d in
        let small : Short fields = record { hours = omega arith; minutes = omega arith; seconds = omega arith; frames = omega arith } in
        let t : true ≡ false = sym (is_short-in fields small) ∙ e in
        let z : ◌≡◌ {A = ℕ} 0 1 = cc in
        absurd (omega arith)
