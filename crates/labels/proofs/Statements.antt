-- The statements of specs/Statements.antt, each proved under its name.
-- Assumes nothing.
use mathlib.Core.Path.{◌≡◌, refl, sym, ◌∙◌, ap}
use mathlib.Core.Bool.{true, not}
use mathlib.Core.List.{List, [], ◌∷◌}
use mathlib.Core.Logic.{⊎_elim}
use Prim.Native.Nat.{ℕ, ◌+◌, ◌*◌, ◌-◌, ◌/◌, ◌%◌, ◌≤◌, ◌<◌}
use native.Mathlib.Nat.{div-add-mod', mod-lt, mul-le-mul_right}
use native.Mathlib.Omega.{arith}
use lib.Arith.{digits_lt}
use Rattle.tally.specs.Before.{before}
use Rattle.tally.specs.BeforeLaws.{which, never-fewer, fewer-before, one_each}
use Rattle.rates.specs.Rates.{is_rate, rate_row, drop_frames}
use Rattle.rates.proofs.Sound.{drop-small}
use Rattle.rates.specs.Day.{day_count, day_frames}
use Rattle.labels.specs.Label.{hours_in, minutes_in, seconds_in, frames_in, LabelOf}
use Rattle.labels.specs.LabelLaws.{kept-tenth, kept_second, kept-past}
use Rattle.labels.proofs.ByMinutes.{count-by-minutes, hours-le}
use Rattle.labels.specs.Sections.{label_number, fields_at, is_allowed, sections_of}
use Rattle.labels.specs.Statements.{HasFields, OneNumber, CountsEarlier, HasLabel, OneLabel, SmallFields, FillDay, FillRate, DayEnds, FillInOrder, StrictExactly, FillDay30, FillDay60}
use Rattle.labels.specs.StrictLaws.{is_strict-told, is_strict-in}
use Rattle.labels.specs.FaultLaws.{strict_fault-none}
use Rattle.labels.proofs.Fields.{fields_back}
use Rattle.labels.proofs.Earlier.{before-place, before-minute}
use Rattle.labels.proofs.Found.{found}

pub has_fields : HasFields
unfolding fields_at
has_fields timebase number h =
    let s : ℕ = number / timebase in
    let whole : 60 * (60 * (s / 60 / 60) + s / 60 % 60) + s % 60 ≡ s = omega arith in (
      record { four = refl; minutes = omega arith; seconds = omega arith; frames = mod-lt number h },
      omega (arith, ap (λ k. k * timebase) whole, div-add-mod' number timebase),
    )

pub one_number : OneNumber
one_number timebase [] x = absurd (omega (arith, x.four))
one_number timebase (h ∷ []) x = absurd (omega (arith, x.four))
one_number timebase (h ∷ m ∷ []) x = absurd (omega (arith, x.four))
one_number timebase (h ∷ m ∷ s ∷ []) x = absurd (omega (arith, x.four))
one_number timebase (h ∷ m ∷ s ∷ f ∷ []) x = fields_back timebase h m s f x.minutes x.seconds x.frames
one_number timebase (h ∷ m ∷ s ∷ f ∷ g ∷ l) x = absurd (omega (arith, x.four))

pub counts_earlier : CountsEarlier
counts_earlier timebase D n fields d x =
    let M : ℕ = 60 * hours_in fields + minutes_in fields in
    let o : ℕ = seconds_in fields * timebase + frames_in fields in
    let place : o < 60 * timebase = digits_lt x.strict.seconds x.strict.frames in
    let e : M * (60 * timebase) + o ≡ label_number timebase fields = omega arith in
    let past = kept-past timebase D (minutes_in fields) (seconds_in fields) (frames_in fields) (omega arith) x.allowed in
    sym x.count
    ∙ count-by-minutes timebase D (omega arith) (hours_in fields) (minutes_in fields) (seconds_in fields) (frames_in fields)
    ∙ sym (before-place timebase D d M o place (λ p. past (omega (arith, p))))
    ∙ ap (before (is_allowed timebase D)) e

pub has_label : HasLabel
has_label timebase D n d = found timebase D n d

-- a label's own number passes the test
passes : (timebase D n : ℕ) (fields : List ℕ) → LabelOf timebase D n fields → is_allowed timebase D (label_number timebase fields) ≡ true
unfolding is_allowed
passes timebase D n fields x = rw (one_number timebase fields x.strict) (ap not x.allowed)

pub one_label : OneLabel
one_label timebase D n a b d x y =
    let same =
    one_each (is_allowed timebase D) (label_number timebase a) (label_number timebase b)
    (passes timebase D n a x)
    (passes timebase D n b y)
    (sym (counts_earlier timebase D n a d x) ∙ counts_earlier timebase D n b d y)
    in
    sym (one_number timebase a x.strict) ∙ ap (fields_at timebase) same ∙ one_number timebase b y.strict

pub small_fields : SmallFields
small_fields timebase D n fields small d x =
    let s = x.strict in
    record {
      hours = hours-le timebase D n fields d x;
      minutes = omega arith;
      seconds = omega arith;
      frames = omega arith;
    }

-- ---- a day
module _ (timebase D : ℕ) (d : D < timebase) where
  day : before (is_allowed timebase D) (1440 * (60 * timebase)) ≡ day_count timebase D
  day = omega (arith, before-minute timebase D d 1440)

  module _ (n : ℕ) (fields : List ℕ) (x : LabelOf timebase D n fields) where
    number : ℕ
    number = label_number timebase fields

    in-day : hours_in fields < 24 → n < day_count timebase D
    unfolding number
    in-day h =
        let s : 60 * (60 * hours_in fields + minutes_in fields) + seconds_in fields < 86_400 = omega (arith, x.strict) in
        let l : number < 1440 * (60 * timebase) = omega (arith, digits_lt s x.strict.frames) in
        let fewer = fewer-before (is_allowed timebase D) number (1440 * (60 * timebase)) (passes timebase D n fields x) l in
        omega (arith, counts_earlier timebase D n fields d x, fewer, day)

    -- hours from 24 on come after the day
    past-day : 24 ≤ hours_in fields → day_count timebase D ≤ n
    unfolding number
    past-day h =
        let s : 86_400 ≤ 60 * (60 * hours_in fields + minutes_in fields) + seconds_in fields = omega arith in
        let m = mul-le-mul_right timebase s in
        let e : 1440 * (60 * timebase) + (number - 1440 * (60 * timebase)) ≡ number = omega arith in
        let more = never-fewer (is_allowed timebase D) (1440 * (60 * timebase)) (number - 1440 * (60 * timebase)) in
        omega (arith, counts_earlier timebase D n fields d x, more, ap (before (is_allowed timebase D)) e, day)

  hours-in-day : (n : ℕ) → n < day_count timebase D → hours_in (sections_of timebase D n) < 24
  hours-in-day n l =
      ⊎_elim
      (λ h. h)
      (λ g. absurd (omega (arith, past-day n (sections_of timebase D n) (found timebase D n d) (⊎_elim (λ e. omega arith) (λ h. omega arith) g))))
      (which (hours_in (sections_of timebase D n)) 24)

pub fill_day : FillDay
fill_day timebase D d = record {
  under = λ n fields x. in-day timebase D d n fields x.label x.hours;
  had = λ n l. record { hours = hours-in-day timebase D d n l; label = found timebase D n d };
  once = λ n a b x y. one_label timebase D n a b d x.label y.label;
  earlier = λ n fields x. counts_earlier timebase D n fields d x.label;
}

pub fill_rate : FillRate
unfolding day_frames
fill_rate rate h = fill_day (rate_row rate).timebase (drop_frames rate) (drop-small rate h)

-- the labels at the day's ends
module _ (rate : ℕ) (h : is_rate rate ≡ true) where
  first-label : LabelOf (rate_row rate).timebase (drop_frames rate) 0 (0 ∷ 0 ∷ 0 ∷ 0 ∷ [])
  first-label =
      let small = drop-small rate h in
      record {
        strict = record { four = refl; minutes = omega arith; seconds = omega arith; frames = omega (arith, small) };
        allowed = kept-tenth (drop_frames rate) 0 0 0 refl;
        count = count-by-minutes (rate_row rate).timebase (drop_frames rate) (omega (arith, small)) 0 0 0 0 ∙ omega arith;
      }

  last-label : LabelOf (rate_row rate).timebase (drop_frames rate) (day_frames rate - 1) (23 ∷ 59 ∷ 59 ∷ ((rate_row rate).timebase - 1) ∷ [])
  unfolding day_frames
  last-label =
      let timebase = (rate_row rate).timebase in
      let small = drop-small rate h in
      record {
        strict = record { four = refl; minutes = omega arith; seconds = omega arith; frames = omega (arith, small) };
        allowed = kept_second (drop_frames rate) 59 59 (timebase - 1) (omega arith);
        count = count-by-minutes timebase (drop_frames rate) (omega (arith, small)) 23 59 59 (timebase - 1) ∙ omega (arith, small);
      }

pub day_ends : DayEnds
day_ends rate h =
    let timebase = (rate_row rate).timebase in
    let D = drop_frames rate in
    let small = drop-small rate h in (
      one_label timebase D 0 _ _ small (found timebase D 0 small) (first-label rate h),
      one_label timebase D (day_frames rate - 1) _ _ small (found timebase D (day_frames rate - 1) small) (last-label rate h),
    )

-- a label that comes first has fewer before it
earlier-less : (timebase D m n : ℕ) (a b : List ℕ) → D < timebase → LabelOf timebase D m a → LabelOf timebase D n b
    → label_number timebase a < label_number timebase b → m < n
earlier-less timebase D m n a b d x y l =
    let fewer = fewer-before (is_allowed timebase D) (label_number timebase a) (label_number timebase b) (passes timebase D m a x) l in
    omega (arith, counts_earlier timebase D m a d x, counts_earlier timebase D n b d y, fewer)

pub fill_in_order : FillInOrder
fill_in_order timebase D m n a b d x y = (
  λ l.
      ⊎_elim (λ h. h) (λ g. absurd (⊎_elim (same l) (λ h. omega (arith, l, earlier-less timebase D n m b a d y x h)) g))
      (which (label_number timebase a) (label_number timebase b)),
  earlier-less timebase D m n a b d x y,
)
  where
    same : m < n → label_number timebase a ≡ label_number timebase b → ⊥
    same l e =
        omega (arith, l, counts_earlier timebase D m a d x, counts_earlier timebase D n b d y, ap (before (is_allowed timebase D)) e)

pub strict_exactly : StrictExactly
strict_exactly timebase fields four =
    let is = strict_fault-none timebase fields in
    (λ e. is_strict-told timebase fields four (sym is ∙ e), λ h. is ∙ is_strict-in timebase fields h.0 h.1)

pub fill_day30 : FillDay30
fill_day30 = fill_day 30 2 (omega arith)

pub fill_day60 : FillDay60
fill_day60 = fill_day 60 4 (omega arith)
