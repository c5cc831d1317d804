-- Each answer tells the text's shape and its fault, and each shape and fault gives its answer.
-- Assumes nothing.
use Rattle.answers.specs.declared.Refusal.{Refusal}
use Rattle.std.specs.Prelude.{Option, Some, Ok, Err, Result}
use Prim.Native.Nat.{ℕ, zero, suc, ◌≤◌}
use native.Mathlib.Omega.{arith}
use mathlib.Core.Path.{◌≡◌, refl, sym, ap, ◌∙◌, subst}
use mathlib.Core.Logic.{◌⊎◌, inl, inr, ⊎_elim}
use mathlib.Core.List.{List}
use mathlib.Core.Bool.{Bool, true, false, false≢true}
use borrow.Author.Tests.{eqb-true}
use lib.Dec.{eqb}
use Rattle.beginnings.specs.Beginning.{LongestBeginning}
use Rattle.beginnings.proofs.Statements.{one_longest}
use Rattle.answers.specs.Refusals.{is_count}
use Rattle.answers.specs.Laws.{held_in, held_out}
use Rattle.rates.specs.Rates.{is_rate}
use Rattle.timecodes.specs.declared.Timecode.{Timecode}
use Rattle.timecodes.specs.Timecode.{timecode}
use Rattle.timecodes.specs.Admitted.{Valid}
use Rattle.digits.specs.Digits.{value_of}
use Rattle.film.specs.declared.FilmFormat.{FilmFormat}
use Rattle.film.specs.declared.FilmFormat.TheVariants.{FF35mm4perf, FF35mm3perf, FF35mm2perf, FF16mm}
use Rattle.film.specs.Film.{is_format, format_at}
use Rattle.film.specs.FormatLaws.{at-number}
use Rattle.film.specs.Statements.{Occurs, OffFilm}
use Rattle.footage_scan.specs.Shape.{FootageParts, has_perf}
use Rattle.footage_scan.proofs.Statements.{one_footage_shape}
use Rattle.reading.specs.declared.Read.{Read}
use Rattle.reading.specs.declared.Read.TheVariants.{Label, Footage}
use Rattle.reading.specs.Answer.{number_of, place_of, timecode_of, as_label, as_footage}
use Rattle.reading.specs.Shaped.{is_stated, format_from, format_for, Shaped, label, footage, refused}
use Rattle.reading.specs.Reading.{takes_perf, read_text}
use Rattle.reading.specs.ReadingLaws.{no_rate, no-format}
use Rattle.reading.specs.Statements.{RateAndFormat, ShapesApart, RefusedSix, RefusedOne, RefusedTwo, AllowedShape, PlaceOne, LongShape, PlaceTwo, PlaceElse, FormatChosen, RefusedFour, RefusedThirteen, MarkerAbsent, RefusedThree, LabelCounted, FootageCounted, CountOut, RefusedFive, CountBounded, AtRate, ReadValid, NumbersGiven}
use Rattle.reading.proofs.Shapes as shapes
use Rattle.reading.proofs.Told.{Behind, Told, told, cause}
use Rattle.reading.proofs.Told as tells
use Rattle.reading.proofs.Gives.{gives_none, gives-long, gives-dropped, gives-label-count, gives-no-perf, gives-not-on-film, gives-footage-count}

pub shapes_apart : ShapesApart
shapes_apart = shapes.shapes_apart

-- ---- the refusals
six-by : (l : List ℕ) (stated : Option ℕ) (rate : ℕ) (t : Bool) → is_rate rate ≡ t → is_stated stated ≡ false → number_of (read_text l stated rate) ≡ 6
six-by l stated rate true r s = ap number_of (no-format l stated rate r s)
six-by l stated rate false r s = ap number_of (no_rate l stated rate r)

pub refused-six : RefusedSix
refused-six l stated rate = (
  λ e. (cause l stated rate 6 (omega arith) e).0,
  ⊎_elim (λ r. ap number_of (no_rate l stated rate r)) (six-by l stated rate (is_rate rate) refl),
)

pub refused-one : RefusedOne
refused-one l stated rate a = (λ e. (cause l stated rate 1 (omega arith) e).0, λ h. ap number_of (gives_none l stated rate a h).1)

pub refused-two : RefusedTwo
refused-two l stated rate a = (
  λ e. shapes.place-long stated l (place_of (read_text l stated rate)) (cause l stated rate 2 (omega arith) e),
  λ h. ap number_of (gives-long l stated rate a h).1,
)

-- ---- their places
pub place_one : PlaceOne
place_one l stated rate place e =
    let longest = (cause l stated rate 1 (omega arith) e).1 in (
      λ is. subst (LongestBeginning (AllowedShape stated) l) is longest,
      λ h. one_longest (AllowedShape stated) l (place_of (read_text l stated rate)) place longest h,
    )

abbrev place_in : Shaped → ℕ
place_in (label m fields) = 0
place_in (footage m feet frames perf marker) = 0
place_in (refused e) = e.place

pub place_two : PlaceTwo
place_two l stated rate place e =
    let here = place_of (read_text l stated rate) in
    let long = cause l stated rate 2 (omega arith) e in (
      λ is. subst (LongShape stated l) is long,
      λ h. ap place_in (sym (shapes.shape-long stated l here long) ∙ shapes.shape-long stated l place h),
    )

pub place_else : PlaceElse
place_else = tells.place_else

-- a number states its format
stated-as : (n : ℕ) (format : FilmFormat) (perf : Bool) → format_at n ≡ Ok format → format_for (Some n) perf ≡ format
stated-as n format perf e = ap format_from e

pub format_chosen : FormatChosen
format_chosen = (
  λ perf. (
    stated-as 1 FF35mm4perf perf (at-number FF35mm4perf),
    stated-as 2 FF35mm3perf perf (at-number FF35mm3perf),
    stated-as 3 FF35mm2perf perf (at-number FF35mm2perf),
    stated-as 4 FF16mm perf (at-number FF16mm),
  ),
  refl,
  refl,
)

pub refused_four : RefusedFour
refused_four l stated rate a = (λ e. (cause l stated rate 4 (omega arith) e).0, λ x. ap number_of (gives-no-perf l stated rate a x))

pub refused_thirteen : RefusedThirteen
refused_thirteen l stated rate a = (λ e. (cause l stated rate 13 (omega arith) e).0, λ x. ap number_of (gives-not-on-film l stated rate a x))

-- a footage without a marker that cannot be on the film has a frames number that does not occur
unmarked-off : (format : FilmFormat) (feet frames : ℕ) (marked : Bool) (marker : ℕ) → OffFilm format feet frames marked marker → marked ≡ false
    → ¬ Occurs format feet frames
unmarked-off format feet frames marked marker off absent = ⊎_elim (λ never. never) (λ other. absurd (false≢true (sym absent ∙ other.0))) off

pub marker_absent : MarkerAbsent
unfolding is_format
marker_absent l rate p r t absent =
    let a : RateAndFormat (Some 2) rate = record { rated = r; filmed = refl } in
    let three = (format_chosen.0 false).1 in (
      λ e. let x = (refused_thirteen l (Some 2) rate a).0 e in
          let same = one_footage_shape l x.parts p x.text.shape t.shape in
          let is : x.format ≡ FF35mm3perf = sym x.in-format.chosen ∙ three in
          subst (λ (f : FilmFormat). ¬ Occurs f (value_of p.feet) (value_of p.frames)) is
          (subst (λ (q : FootageParts). ¬ Occurs x.format (value_of q.feet) (value_of q.frames)) same
          (unmarked-off x.format _ _ _ _ x.off (ap (λ (q : FootageParts). has_perf q.perf) same ∙ absent))),
      λ never. (refused_thirteen l (Some 2) rate a).1 (record {
        parts = p;
        text = t;
        format = FF35mm3perf;
        in-format = record { chosen = three; takes = ap (takes_perf FF35mm3perf) absent };
        off = inl never;
      }),
    )

pub refused_three : RefusedThree
refused_three l stated rate a = (λ e. (cause l stated rate 3 (omega arith) e).0, λ x. ap number_of (gives-dropped l stated rate a x.0 x.1))

-- ---- the counts
pub label-counted : LabelCounted
label-counted l stated rate z a = (
  λ e. (subst (Told l stated rate) e (told l stated rate)).1,
  λ x. gives-label-count l stated rate a z x.0 ∙ ap (as_label rate) (held_in z x.1),
)

pub footage_counted : FootageCounted
footage_counted l stated rate format z a = (
  λ e. (subst (Told l stated rate) e (told l stated rate)).1,
  λ x. gives-footage-count l stated rate a format z x.0 ∙ ap (as_footage rate format) (held_in z x.1),
)

gives-out : (l : List ℕ) (stated : Option ℕ) (rate : ℕ) → RateAndFormat stated rate → CountOut l stated rate → number_of (read_text l stated rate) ≡ 5
gives-out l stated rate a x =
    ⊎_elim
    (λ c. ap number_of (gives-label-count l stated rate a x.z c ∙ ap (as_label rate) (held_out x.z x.out)))
    (λ c. ap number_of (gives-footage-count l stated rate a c.0 x.z c.1 ∙ ap (as_footage rate c.0) (held_out x.z x.out)))
    x.count

pub refused-five : RefusedFive
refused-five l stated rate a = (λ e. (cause l stated rate 5 (omega arith) e).0, gives-out l stated rate a)

bounded-by : (l : List ℕ) (stated : Option ℕ) (rate : ℕ) (r : Result Read Refusal) → Told l stated rate r → is_count (timecode_of r).count ≡ true
bounded-by l stated rate (Ok (Label tc)) t = t.1.1
bounded-by l stated rate (Ok (Footage tc format)) t = t.1.1
bounded-by l stated rate (Err e) t = refl

pub count-bounded : CountBounded
count-bounded l stated rate = bounded-by l stated rate (read_text l stated rate) (told l stated rate)

pub at-rate : AtRate
at-rate l stated rate tc = (
  λ e. ap (λ (x : Timecode). x.rate) (subst (Told l stated rate) e (told l stated rate)).0,
  λ format e. ap (λ (x : Timecode). x.rate) (subst (Told l stated rate) e (told l stated rate)).0,
)

module _ (l : List ℕ) (stated : Option ℕ) (rate : ℕ) where
  rated-by : (t : Bool) → is_rate rate ≡ t → number_of (read_text l stated rate) ≡ 0 → is_rate rate ≡ true
  rated-by true r e = r
  rated-by false r e = let f = ap number_of (no_rate l stated rate r) in absurd (omega arith)

  valid : (tc : Timecode) → number_of (read_text l stated rate) ≡ 0 → tc ≡ timecode tc.count rate → timecode_of (read_text l stated rate) ≡ tc → Valid tc
  valid tc n is e =
      subst Valid (sym is) (record {
        rate = rated-by (is_rate rate) refl n;
        within = ap (λ (x : Timecode). is_count x.count) (sym e) ∙ count-bounded l stated rate;
      })

  behind-by : (past : ℕ) (six thirteen : Bool) → eqb past 0 ≡ six → eqb past 7 ≡ thirteen
      → Behind l stated rate six thirteen (place_of (read_text l stated rate))
      → (suc (suc (suc (suc (suc (suc past))))) ≤ 6) ⊎ (suc (suc (suc (suc (suc (suc past))))) ≡ 13)
  behind-by past true t p q c = inl (omega (arith, eqb-true past 0 p))
  behind-by past false true p q c = inr (omega (arith, eqb-true past 7 q))
  behind-by past false false p q c = absurd c

  number_by : (n : ℕ) → number_of (read_text l stated rate) ≡ n → (n ≤ 6) ⊎ (n ≡ 13)
  number_by zero e = inl (omega arith)
  number_by (suc zero) e = inl (omega arith)
  number_by (suc (suc zero)) e = inl (omega arith)
  number_by (suc (suc (suc zero))) e = inl (omega arith)
  number_by (suc (suc (suc (suc zero)))) e = inl (omega arith)
  number_by (suc (suc (suc (suc (suc zero))))) e = inl (omega arith)
  number_by (suc (suc (suc (suc (suc (suc past)))))) e =
      behind-by past (eqb past 0) (eqb past 7) refl refl (cause l stated rate (suc (suc (suc (suc (suc (suc past)))))) (omega arith) e)

pub read_valid : ReadValid
read_valid l stated rate tc = (
  λ e. valid l stated rate tc (ap number_of e) (subst (Told l stated rate) e (told l stated rate)).0 (ap timecode_of e),
  λ format e. valid l stated rate tc (ap number_of e) (subst (Told l stated rate) e (told l stated rate)).0 (ap timecode_of e),
)

pub numbers_given : NumbersGiven
numbers_given l stated rate = number_by l stated rate (number_of (read_text l stated rate)) refl
