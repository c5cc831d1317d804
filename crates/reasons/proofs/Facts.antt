-- The fact behind a number, number by number.
-- Assumes nothing.
use Rattle.std.specs.Prelude.{◌-◌, get_or, Option, Some, None}
use Prim.Native.Nat.{ℕ}
use mathlib.Core.Path.{◌≡◌, refl, sym, ap, ◌∙◌}
use mathlib.Core.Bool.{Bool}
use mathlib.Core.List.{List}
use borrow.Author.Tests.{ne_eqb}
use Rattle.answers.specs.declared.Cause.{Cause}
use Rattle.answers.specs.declared.Cause.TheVariants.{NoShape, TooLong, DroppedLabel, NoPerfField, OutOfBounds, NoSuch, ZeroDivisor, NoRoom, NoSuchKind, CutShort, NoRateYet, EndBeforeFirst, NotOnFilm, NotStrict, WrongKind, BrokenDirectory, PastDay}
use Rattle.answers.specs.Causes.{causes, cause_number}
use Rattle.faults.specs.Faults.{count_fault}
use Rattle.rates.specs.Rates.{drop_frames}
use Rattle.film.specs.declared.FilmFormat.{FilmFormat}
use Rattle.film.specs.Footage.{footage_or}
use Rattle.film.specs.Faults.{film_fault}
use Rattle.labels.specs.AtRate.{frames_or}
use Rattle.reading.specs.Shaped.{Shaped, label, footage, refused}
use Rattle.reading.specs.For.{position_fault}
use Rattle.reasons.specs.declared.Fact.TheVariants.{First}
use Rattle.reasons.specs.Facts.{limit_from, first_label, label_fact, footage_fact, fact_by}

module _ (number rate : ℕ) (minus : Bool) (fields : List ℕ) where
  pub label-three : number ≡ 3 → label_fact number rate minus fields ≡ Some (First (first_label (drop_frames rate) minus fields))
  unfolding label_fact
  label-three e = ap (λ (n : ℕ). label_fact n rate minus fields) e

  pub label-five : number ≡ 5 → label_fact number rate minus fields ≡ limit_from (count_fault minus (frames_or rate fields))
  unfolding label_fact
  label-five e = ap (λ (n : ℕ). label_fact n rate minus fields) e

  pub label-fourteen : number ≡ 14 → label_fact number rate minus fields ≡ limit_from (position_fault rate minus fields)
  unfolding label_fact
  label-fourteen e = ap (λ (n : ℕ). label_fact n rate minus fields) e

  pub label_none : ¬ (number ≡ 3) → ¬ (number ≡ 5) → ¬ (number ≡ 14) → label_fact number rate minus fields ≡ None
  unfolding label_fact
  label_none a b c = rw (ne_eqb number 3 a, ne_eqb number 5 b, ne_eqb number 14 c)

module _ (number : ℕ) (format : FilmFormat) (minus : Bool) (feet frames : ℕ) (perf : Bool) (marker : ℕ) where
  pub footage-five : number ≡ 5
      → footage_fact number format minus feet frames perf marker ≡ limit_from (count_fault minus (footage_or format feet frames))
  unfolding footage_fact
  footage-five e = ap (λ (n : ℕ). footage_fact n format minus feet frames perf marker) e

  pub footage-thirteen : number ≡ 13
      → footage_fact number format minus feet frames perf marker ≡ limit_from (film_fault format feet frames perf marker)
  unfolding footage_fact
  footage-thirteen e = ap (λ (n : ℕ). footage_fact n format minus feet frames perf marker) e

  pub footage-none : ¬ (number ≡ 5) → ¬ (number ≡ 13) → footage_fact number format minus feet frames perf marker ≡ None
  unfolding footage_fact
  footage-none a b = rw (ne_eqb number 5 a, ne_eqb number 13 b)

-- ---- where nothing is refused
pub no-fact : (rate : ℕ) (stated : Option ℕ) (x : Shaped) → fact_by 0 rate stated x ≡ None
unfolding label_fact footage_fact
no-fact rate stated (label minus fields) = refl
no-fact rate stated (footage minus feet frames perf marker) = refl
no-fact rate stated (refused e) = refl

-- ---- the numbers of causes tell them apart
abbrev cause_of : ℕ → Cause
cause_of n = get_or causes (n - 1) PastDay

cause_back : (cause : Cause) → cause_of (cause_number cause) ≡ cause
cause_back NoShape = refl
cause_back TooLong = refl
cause_back DroppedLabel = refl
cause_back NoPerfField = refl
cause_back OutOfBounds = refl
cause_back NoSuch = refl
cause_back ZeroDivisor = refl
cause_back NoRoom = refl
cause_back NoSuchKind = refl
cause_back CutShort = refl
cause_back NoRateYet = refl
cause_back EndBeforeFirst = refl
cause_back NotOnFilm = refl
cause_back NotStrict = refl
cause_back WrongKind = refl
cause_back BrokenDirectory = refl
cause_back PastDay = refl

pub number_apart : (cause : Cause) (n : ℕ) → ¬ (cause ≡ cause_of n) → ¬ (cause_number cause ≡ n)
number_apart cause n other = λ e. other (sym (cause_back cause) ∙ ap cause_of e)
