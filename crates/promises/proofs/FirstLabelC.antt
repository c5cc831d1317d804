-- What `tzq_why` answers as the label of 3 has at most 20 bytes: fields of at most nine digits, minutes past 59 carried into hours.
-- Assumes nothing.
use Rattle.answers.specs.declared.Refusal.{Refusal}
use Rattle.faults.specs.declared.Fault.{Fault}
use Rattle.std.specs.Prelude.{Option, Some, None, Result, Ok, Err}
use Prim.Native.Nat.{ℕ, ◌≤◌, ◌<◌}
use mathlib.Core.Path.{◌≡◌, refl}
use mathlib.Core.Bool.{Bool, true, false, cond}
use mathlib.Core.List.{List}
use native.Mathlib.Omega.{arith}
use lib.Dec.{eqb}
use Rattle.faults.specs.Faults.{count_fault}
use Rattle.rates.specs.Rates.{drop_frames}
use Rattle.rates.specs.Laws.{drop_le}
use Rattle.timecodes.specs.declared.kinds.Kind.{Kind}
use Rattle.film.specs.declared.FilmFormat.{FilmFormat}
use Rattle.film.specs.Footage.{footage_or}
use Rattle.film.specs.Faults.{film_fault}
use Rattle.labels.specs.Label.{Short}
use Rattle.labels.specs.AtRate.{frames_or}
use Rattle.label_writer.specs.declared.TimecodeSections.{TimecodeSections}
use Rattle.reading.specs.declared.Read.{Read}
use Rattle.reading.specs.Answer.{number_of}
use Rattle.reading.specs.Shaped.{Shaped, label, footage, refused, shape_of, format_for}
use Rattle.reading.specs.For.{read_for, position_fault}
use Rattle.written.specs.Written.{Text, answer_to}
use Rattle.reasons.specs.declared.Fact.{Fact}
use Rattle.reasons.specs.declared.Fact.TheVariants.{Limit, First}
use Rattle.reasons.specs.Facts.{limit_from, first_label, label_fact, footage_fact, fact_by, ShortLabel}
use Rattle.reasons.specs.Why.{fact_of, phrase_for, told_as, why_of}
use Rattle.reasons.proofs.Told.{shape-short}
use Rattle.exports.specs.declared.why.TzqReason.{TzqReason}
use Rattle.exports.specs.HandedWhy.{no_fact, limit_fact, first_fact, told_reason, no_reason, handed_reason}
use Rattle.promises.specs.WhyFieldsC.{ShortIn}

-- fields of at most nine digits, minutes carried: ten digits of hours
pub record ShortSections (s : TimecodeSections) : Type 0 where
  pub hours : s.hours ≤ 1_016_666_665
  pub minutes : s.minutes < 60
  pub seconds : s.seconds ≡ 0
  pub frames : s.frames ≤ 4

first_short : (rate : ℕ) (minus : Bool) (fields : List ℕ) → Short fields → ShortSections (first_label (drop_frames rate) minus fields)
unfolding first_label
first_short rate minus fields s = record {
  hours = omega (arith, s.hours, s.minutes);
  minutes = omega arith;
  seconds = refl;
  frames = drop_le rate;
}

abbrev ShortFact : Option Fact → Type 0
ShortFact None = Unit {0}
ShortFact (Some (Limit f)) = Unit {0}
ShortFact (Some (First s)) = ShortSections s

limit-short : (x : Option Fault) → ShortFact (limit_from x)
limit-short None = tt
limit-short (Some f) = tt

cond_short : (t : Bool) (a b : Option Fact) → ShortFact a → ShortFact b → ShortFact (cond t a b)
cond_short true a b p q = p
cond_short false a b p q = q

label-short : (n rate : ℕ) (minus : Bool) (fields : List ℕ) → Short fields → ShortFact (label_fact n rate minus fields)
unfolding label_fact
label-short n rate minus fields s =
    cond_short (eqb n 3) _ _ (first_short rate minus fields s)
    (cond_short (eqb n 5) _ _ (limit-short (count_fault minus (frames_or rate fields)))
    (cond_short (eqb n 14) _ _ (limit-short (position_fault rate minus fields)) tt))

footage-short : (n : ℕ) (format : FilmFormat) (minus : Bool) (feet frames : ℕ) (perf : Bool) (marker : ℕ)
    → ShortFact (footage_fact n format minus feet frames perf marker)
unfolding footage_fact
footage-short n format minus feet frames perf marker =
    cond_short (eqb n 5) _ _ (limit-short (count_fault minus (footage_or format feet frames)))
    (cond_short (eqb n 13) _ _ (limit-short (film_fault format feet frames perf marker)) tt)

by-short : (n rate : ℕ) (stated : Option ℕ) (x : Shaped) → ShortLabel x → ShortFact (fact_by n rate stated x)
by-short n rate stated (label minus fields) s = label-short n rate minus fields s
by-short n rate stated (footage minus feet frames perf marker) s = footage-short n (format_for stated perf) minus feet frames perf marker
by-short n rate stated (refused e) s = tt

fact-short : (kind : Kind) (l : List ℕ) (stated : Option ℕ) (rate : ℕ) → ShortFact (fact_of kind l stated rate)
unfolding fact_of
fact-short kind l stated rate = by-short (number_of (read_for kind l stated rate)) rate stated (shape_of stated l) (shape-short stated l)

-- in the struct: those of the label, or zeros
zeros-short : (t : TzqReason) → t.hours ≡ 0 → t.minutes ≡ 0 → t.seconds ≡ 0 → t.frames ≡ 0 → ShortIn t
zeros-short t h m s f = record { hours = omega (arith, h); minutes = omega (arith, m); seconds = s; frames = omega (arith, f) }

short-in : (t : TzqReason) (read : Result Read Refusal) (fact : Option Fact) (w : Result ℕ Refusal) → ShortFact fact → t ≡ handed_reason (told_as read fact w) → ShortIn t
unfolding told_reason no_reason no_fact limit_fact first_fact
short-in t read None (Ok n) s e = rw e (zeros-short _ refl refl refl refl)
short-in t read (Some (Limit f)) (Ok n) s e = rw e (zeros-short _ refl refl refl refl)
short-in t read (Some (First f)) (Ok n) s e = rw e (record { hours = s.hours; minutes = s.minutes; seconds = s.seconds; frames = s.frames })
short-in t read None (Err r) s e = rw e (zeros-short _ refl refl refl refl)
short-in t read (Some (Limit f)) (Err r) s e = rw e (zeros-short _ refl refl refl refl)
short-in t read (Some (First f)) (Err r) s e = rw e (zeros-short _ refl refl refl refl)

pub why-short : (t : TzqReason) (kind : Kind) (l : List ℕ) (stated : Option ℕ) (rate : ℕ) (line : List ℕ) (place : ℕ)
    → t ≡ handed_reason (why_of kind l stated rate line place) → ShortIn t
unfolding why_of
why-short t kind l stated rate line place e =
    short-in t (read_for kind l stated rate) (fact_of kind l stated rate) (answer_to line place (Text (phrase_for kind l stated rate)))
    (fact-short kind l stated rate) e
