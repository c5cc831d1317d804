-- Labels and counts (BEHAVIOUR: Labels and counts): the count of a label, which labels are dropped, and the label of a count.
-- Assumes nothing.
use Rattle.std.specs.Prelude.{◌≡◌, Bool, false, not, ◌&&◌, List, ℕ, ◌+◌, ◌*◌, ◌-◌, ◌/◌, ◌%◌, ◌<◌, eqb, ltb, length, get_or}
use Rattle.answers.specs.Refusals.{beyond}

-- M is 60 x hours + minutes; the count is (60 x M + seconds) x timebase + frames - D x (M - M/10 rounded down)
unfoldable pub label_count : (timebase D hours minutes seconds frames : ℕ) → ℕ
label_count timebase D hours minutes seconds frames =
    let M = 60 * hours + minutes in (60 * M + seconds) * timebase + frames - D * (M - M / 10)

-- dropped: seconds 0, frames below D, minutes not a multiple of 10
unfoldable pub is_dropped : (D minutes seconds frames : ℕ) → Bool
is_dropped D minutes seconds frames = eqb seconds 0 && (ltb frames D && not (eqb (minutes % 10) 0))

-- ---- the same of four fields in a list, hours first
abbrev pub hours_in : List ℕ → ℕ
hours_in fields = get_or fields 0 0

abbrev pub minutes_in : List ℕ → ℕ
minutes_in fields = get_or fields 1 0

abbrev pub seconds_in : List ℕ → ℕ
seconds_in fields = get_or fields 2 0

abbrev pub frames_in : List ℕ → ℕ
frames_in fields = get_or fields 3 0

abbrev pub count_in : (timebase D : ℕ) (fields : List ℕ) → ℕ
count_in timebase D fields =
    label_count timebase D (hours_in fields) (minutes_in fields) (seconds_in fields) (frames_in fields)

abbrev pub dropped_in : (D : ℕ) (fields : List ℕ) → Bool
dropped_in D fields = is_dropped D (minutes_in fields) (seconds_in fields) (frames_in fields)

-- each field has at most 9 digits, as a test
unfoldable pub is_short : (fields : List ℕ) → Bool
is_short fields =
    ltb (hours_in fields) beyond
    && (ltb (minutes_in fields) beyond && (ltb (seconds_in fields) beyond && ltb (frames_in fields) beyond))

-- each field has at most 9 digits
pub record Short (fields : List ℕ) : Type 0 where
  pub hours : hours_in fields < 1_000_000_000
  pub minutes : minutes_in fields < 1_000_000_000
  pub seconds : seconds_in fields < 1_000_000_000
  pub frames : frames_in fields < 1_000_000_000

-- four fields, with minutes and seconds under 60 and frames under the timebase
pub record Strict (timebase : ℕ) (fields : List ℕ) : Type 0 where
  pub four : length fields ≡ 4
  pub minutes : minutes_in fields < 60
  pub seconds : seconds_in fields < 60
  pub frames : frames_in fields < timebase

-- the same as a test, with hours under 24: what the label of a position must be
unfoldable pub is_strict : (timebase : ℕ) (fields : List ℕ) → Bool
is_strict timebase fields =
    ltb (hours_in fields) 24 && (ltb (minutes_in fields) 60 && (ltb (seconds_in fields) 60 && ltb (frames_in fields) timebase))

-- an allowed label, with minutes and seconds under 60 and frames under the timebase, whose count is n
pub record LabelOf (timebase D n : ℕ) (fields : List ℕ) : Type 0 where
  pub strict : Strict timebase fields
  pub allowed : dropped_in D fields ≡ false
  pub count : count_in timebase D fields ≡ n
