-- The counts of positions that are read, proved: a label's own, a footage's reduced by whole days.
-- Assumes nothing.
use Rattle.answers.specs.declared.Refusal.{Refusal}
use Rattle.std.specs.Prelude.{Option, None, Ok, Err, Result}
use Prim.Native.Nat.{ℕ}
use native.Mathlib.Omega.{arith}
use mathlib.Core.Path.{◌≡◌, refl, sym, ap, ◌∙◌, subst}
use mathlib.Core.List.{List}
use mathlib.Core.Bool.{Bool, true, false, false≢true}
use borrow.Author.Tests.{le-leb}
use lib.IntN.{ℤ, pos, nat_abs}
use Rattle.answers.specs.Refusals.{most_count, is_count}
use Rattle.rates.specs.Rates.{is_rate, rate_row, drop_frames}
use Rattle.rates.proofs.Days.{day-le}
use Rattle.timecodes.specs.declared.Timecode.{Timecode}
use Rattle.timecodes.specs.declared.kinds.Kind.{Kind}
use Rattle.timecodes.specs.declared.kinds.Kind.TheVariants.{Length, Position}
use Rattle.timecodes.specs.Timecode.{timecode, position}
use Rattle.timecodes.specs.Made.{OfDay, in_day, made}
use Rattle.timecodes.specs.Admitted.{Valid}
use Rattle.timecodes.specs.MadeLaws.{in_day-is, in_day-one, in_day-own, made-valid}
use Rattle.film.specs.declared.FilmFormat.{FilmFormat}
use Rattle.labels.specs.Label.{count_in}
use Rattle.labels.specs.AtRate.{label_frames}
use Rattle.labels.specs.Statements.{DayLabel}
use Rattle.labels.proofs.Statements.{fill_rate}
use Rattle.reading.specs.declared.Read.{Read}
use Rattle.reading.specs.declared.Read.TheVariants.{Label, Footage}
use Rattle.reading.specs.Answer.{number_of, timecode_of}
use Rattle.reading.specs.Reading.{read_text}
use Rattle.reading.proofs.ByShape.{label-within, read_length, for-shaped}
use Rattle.reading.specs.For.{settled_read, is_label_of, shaped_for, read_for}
use Rattle.reading.specs.ForLaws.{label_of, for-no-rate}
use Rattle.reading.specs.Statements.{RateAndFormat, LabelText, LabelCount, FootageCount}
use Rattle.reading.specs.Positions.{StrictLabel, DayText, PositionLabel, PositionFootage, ReadKind}
use Rattle.reading.proofs.Told.{Told, told}
use Rattle.reading.proofs.Statements.{shapes_apart, footage_counted, read_valid}
use Rattle.reading.proofs.Positions.{four-fields, strict-told, strict_in, label-shape, fourteen, not-fourteen, refused_fourteen}

-- ---- what is read for a position was read as a length
module _ (l : List ℕ) (stated : Option ℕ) (rate : ℕ) where
  -- a length that was read, and the position that it comes to
  pub record FromLabel (tc : Timecode) : Type 0 where
    pub count : ℤ
    pub is : position (in_day rate count) rate ≡ tc
    pub label : LabelCount l stated rate count
    pub within : is_count count ≡ true

  pub record FromFootage (tc : Timecode) (format : FilmFormat) : Type 0 where
    pub count : ℤ
    pub is : position (in_day rate count) rate ≡ tc
    pub footage : FootageCount l stated format count
    pub within : is_count count ≡ true

  -- by what a length's reading gave
  label-from : (r : Result Read Refusal) (tc : Timecode) → Told l stated rate r → settled_read Position r ≡ Ok (Label tc) → FromLabel tc
  label-from (Ok (Label t)) tc x e =
      record {
        count = t.count;
        is = ap (λ (y : Timecode). made Position t.count y.rate) (sym x.0) ∙ ap timecode_of e;
        label = x.1.0;
        within = x.1.1;
      }
  label-from (Ok (Footage t format)) tc x e = let z : ◌≡◌ {A = ℕ} 0 1 = cc in absurd (omega arith)
  label-from (Err f) tc x e = let z : ◌≡◌ {A = ℕ} 0 1 = cc in absurd (omega arith)

  abbrev format_in : FilmFormat → Result Read Refusal → FilmFormat
  format_in other (Ok (Label t)) = other
  format_in other (Ok (Footage t format)) = format
  format_in other (Err e) = other

  footage-from : (r : Result Read Refusal) (tc : Timecode) (format : FilmFormat) → Told l stated rate r → settled_read Position r ≡ Ok (Footage tc format) → FromFootage tc format
  footage-from (Ok (Label t)) tc format x e = let z : ◌≡◌ {A = ℕ} 0 1 = cc in absurd (omega arith)
  footage-from (Ok (Footage t f)) tc format x e =
      record {
        count = t.count;
        is = ap (λ (y : Timecode). made Position t.count y.rate) (sym x.0) ∙ ap timecode_of e;
        footage = subst (λ (g : FilmFormat). FootageCount l stated g t.count) (ap (format_in f) e) x.1.0;
        within = x.1.1;
      }
  footage-from (Err f) tc format x e = let z : ◌≡◌ {A = ℕ} 0 1 = cc in absurd (omega arith)

  -- what is read got no 14
  read-label : (tc : Timecode) → read_for Position l stated rate ≡ Ok (Label tc) → FromLabel tc
  read-label tc e =
      let same = not-fourteen l stated rate (λ n. let m = sym (ap number_of e) ∙ n in omega (arith, m)) in
      label-from (read_text l stated rate) tc (told l stated rate) (sym same ∙ e)

  read-footage : (tc : Timecode) (format : FilmFormat) → read_for Position l stated rate ≡ Ok (Footage tc format) → FromFootage tc format
  read-footage tc format e =
      let same = not-fourteen l stated rate (λ n. let m = sym (ap number_of e) ∙ n in omega (arith, m)) in
      footage-from (read_text l stated rate) tc format (told l stated rate) (sym same ∙ e)

-- ---- a label
module _ (l : List ℕ) (stated : Option ℕ) (rate : ℕ) (a : RateAndFormat stated rate) where
  -- a label that is read is strict
  strict-read : (m : Bool) (fields : List ℕ) → stated ≡ None → LabelText l m fields → ¬ (number_of (read_for Position l stated rate) ≡ 14)
      → StrictLabel rate m fields
  strict-read m fields u t n = by (is_label_of Position rate m fields) refl
    where
      by : (s : Bool) → is_label_of Position rate m fields ≡ s → StrictLabel rate m fields
      by true e = strict-told rate m fields (four-fields l m fields t) e
      by false e =
          absurd (n ((refused_fourteen l stated rate).1
          (a, (u, record { minus = m; fields = fields; text = t; not-strict = λ s. false≢true (sym e ∙ strict_in rate m fields s) }))))

  label-forth : (n : ℕ) → read_for Position l stated rate ≡ Ok (Label (position (pos n) rate)) → DayText l stated rate n
  label-forth n e =
      let f = read-label l stated rate (position (pos n) rate) e in
      let x = f.label in
      let s = strict-read x.minus x.fields x.unstated x.text (λ k. let m = sym (ap number_of e) ∙ k in omega (arith, m)) in
      let own : ℕ = count_in (rate_row rate).timebase (drop_frames rate) x.fields in
      let day : DayLabel (rate_row rate).timebase (drop_frames rate) own x.fields =
      record { hours = s.hours; label = record { strict = s.strict; allowed = x.kept; count = refl } } in
      let counted : f.count ≡ pos own = sym x.count ∙ ap (λ (m : Bool). label_frames rate m x.fields) s.unsigned in
      let is : pos own ≡ pos n =
      sym (in_day-own rate a.rated own ((fill_rate rate a.rated).under own x.fields day))
      ∙ ap (in_day rate) (sym counted)
      ∙ ap (λ (t : Timecode). t.count) f.is in
      record {
        unstated = x.unstated;
        fields = x.fields;
        text = subst (λ (m : Bool). LabelText l m x.fields) s.unsigned x.text;
        label = subst (λ (k : ℕ). DayLabel (rate_row rate).timebase (drop_frames rate) k x.fields) (ap nat_abs is) day;
      }

  label_back : (n : ℕ) → DayText l stated rate n → read_for Position l stated rate ≡ Ok (Label (position (pos n) rate))
  label_back n x =
      let day = x.label in
      let under = (fill_rate rate a.rated).under n x.fields day in
      let counted : label_frames rate false x.fields ≡ pos n = ap pos day.label.count in
      let within : is_count (label_frames rate false x.fields) ≡ true = ap is_count counted ∙ le-leb n most_count (omega (arith, under, day-le rate)) in
      let strict = strict_in rate false x.fields (record { unsigned = refl; hours = day.hours; strict = day.label.strict }) in
      for-shaped Position l stated rate a.rated a.filmed
      ∙ ap (shaped_for Position rate stated) (label-shape l stated false x.fields x.unstated x.text)
      ∙ label_of Position rate stated false x.fields strict
      ∙ ap (settled_read Position) (label-within rate false x.fields day.label.allowed within)
      ∙ ap (λ (z : ℤ). Ok (Label (position z rate))) (ap (in_day rate) counted ∙ in_day-own rate a.rated n under)

pub position_label : PositionLabel
position_label l stated rate n a = (label-forth l stated rate a n, label_back l stated rate a n)

-- ---- a footage
pub position_footage : PositionFootage
position_footage l stated rate format z a = (
  λ e.
      let f = read-footage l stated rate (position z rate) format e in
      record {
        count = f.count;
        footage = f.footage;
        within = f.within;
        of_day = subst (OfDay rate f.count) (ap (λ (t : Timecode). t.count) f.is) (in_day-is rate a.rated f.count);
      },
  λ x.
      let read = (footage_counted l stated rate format x.count a).1 (x.footage, x.within) in
      let none : ¬ (number_of (read_for Position l stated rate) ≡ 14) = λ n.
      let f = fourteen l stated rate n in
      shapes_apart l f.text.minus f.text.text.digits x.footage.parts f.text.text.shape x.footage.text.shape in
      not-fourteen l stated rate none
      ∙ ap (settled_read Position) read
      ∙ ap (λ (y : ℤ). Ok (Footage (position y rate) format)) (sym (in_day-one rate a.rated x.count z x.of_day)),
)

-- ---- the kind
module _ (l : List ℕ) (stated : Option ℕ) (rate : ℕ) where
  rated : (kind : Kind) (t : Bool) → is_rate rate ≡ t → number_of (read_for kind l stated rate) ≡ 0 → is_rate rate ≡ true
  rated kind true r e = r
  rated kind false r e = let n = sym (ap number_of (for-no-rate kind l stated rate r)) ∙ e in absurd (omega (arith, n))

  -- a position that was made
  of-position : (tc : Timecode) (count : ℤ) → is_rate rate ≡ true → is_count count ≡ true → position (in_day rate count) rate ≡ tc
      → (tc.kind ≡ Position) × (tc.rate ≡ rate) × Valid tc
  of-position tc count r c is = (
    ap (λ (t : Timecode). t.kind) (sym is),
    ap (λ (t : Timecode). t.rate) (sym is),
    subst Valid is (made-valid Position count rate r c),
  )

  -- a length that was read
  of_length : (tc : Timecode) → tc ≡ timecode tc.count rate → Valid tc → (tc.kind ≡ Length) × (tc.rate ≡ rate) × Valid tc
  of_length tc is v = (ap (λ (t : Timecode). t.kind) is, ap (λ (t : Timecode). t.rate) is, v)

pub read_kind : ReadKind
read_kind Length l stated rate tc = (
  λ e.
      let r = sym (read_length l stated rate) ∙ e in
      of_length l stated rate tc (subst (Told l stated rate) r (told l stated rate)).0 ((read_valid l stated rate tc).0 r),
  λ format e.
      let r = sym (read_length l stated rate) ∙ e in
      of_length l stated rate tc (subst (Told l stated rate) r (told l stated rate)).0 ((read_valid l stated rate tc).1 format r),
)
read_kind Position l stated rate tc = (
  λ e.
      let f = read-label l stated rate tc e in
      of-position l stated rate tc f.count (rated l stated rate Position (is_rate rate) refl (ap number_of e)) f.within f.is,
  λ format e.
      let f = read-footage l stated rate tc format e in
      of-position l stated rate tc f.count (rated l stated rate Position (is_rate rate) refl (ap number_of e)) f.within f.is,
)
