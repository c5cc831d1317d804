-- What a text reads as for a position, proved: by its shape 14 or what a length's reading gives, and back.
-- Assumes nothing.
use Rattle.answers.specs.declared.Refusal.{Refusal}
use Rattle.std.specs.Prelude.{Option, None, Ok, Err, Result}
use Prim.Native.Nat.{ℕ}
use native.Mathlib.Omega.{arith}
use mathlib.Core.Path.{◌≡◌, refl, sym, ap, ◌∙◌}
use mathlib.Core.Logic.{◌⊎◌, inl, inr, ⊎_elim}
use mathlib.Core.List.{List, map}
use lib.ListN.{length}
use Rattle.digits.specs.Digits.{value_of}
use mathlib.Core.Bool.{Bool, true, false, not, and-eq-true_iff, false≢true}
use Rattle.answers.specs.Refusals.{not_strict}
use Rattle.rates.specs.Rates.{is_rate, rate_row}
use Rattle.timecodes.specs.declared.kinds.Kind.{Kind}
use Rattle.timecodes.specs.declared.kinds.Kind.TheVariants.{Position}
use Rattle.labels.specs.Label.{is_strict}
use Rattle.labels.specs.StrictLaws.{is_strict-told, is_strict-in}
use Rattle.reading.specs.declared.Read.{Read}
use Rattle.reading.specs.declared.Read.TheVariants.{Label, Footage}
use Rattle.reading.specs.Answer.{number_of, place_of}
use Rattle.reading.specs.Shaped.{is_stated, Shaped, label, shape_of}
use Rattle.reading.specs.Reading.{read_shaped, read_text}
use Rattle.reading.specs.ReadingLaws.{no_rate, no-format}
use Rattle.reading.proofs.ByShape.{read-shaped, read_length, for-shaped}
use Rattle.reading.specs.For.{settled_read, is_label_of, shaped_for, read_for}
use Rattle.reading.specs.ForLaws.{label-not-of, label_of, for-no-rate, for-no-format}
use Rattle.reading.specs.Statements.{RateAndFormat, LabelText}
use Rattle.reading.specs.Positions.{LengthRead, StrictLabel, NotStrictText, RefusedFourteen, PlaceFourteen, PositionElse}
use Rattle.scanner.proofs.Justified.{justified-length}
use Rattle.reading.proofs.FourKinds.{none, long, labelled, filmed, kind}
use Rattle.reading.proofs.FourKinds as four
use Rattle.reading.proofs.Shapes.{shape-label}
use Rattle.reading.proofs.Statements.{numbers_given}

pub length_read : LengthRead
length_read = read_length

-- ---- a label by the test
-- a text's label has four fields
pub four-fields : (l : List ℕ) (minus : Bool) (fields : List ℕ) → LabelText l minus fields → length fields ≡ 4
four-fields l minus fields t = sym (ap length t.values) ∙ justified-length (map value_of t.digits)

pub strict-told : (rate : ℕ) (minus : Bool) (fields : List ℕ) → length fields ≡ 4 → is_label_of Position rate minus fields ≡ true → StrictLabel rate minus fields
strict-told rate minus fields four h =
    let both = (and-eq-true_iff (not minus) (is_strict (rate_row rate).timebase fields)).0 h in
    let s = is_strict-told (rate_row rate).timebase fields four both.1 in
    record { unsigned = plain minus both.0; hours = s.0; strict = s.1 }
  where
    plain : (t : Bool) → not t ≡ true → t ≡ false
    plain true e = sym e
    plain false e = refl

pub strict_in : (rate : ℕ) (minus : Bool) (fields : List ℕ) → StrictLabel rate minus fields → is_label_of Position rate minus fields ≡ true
strict_in rate minus fields s = rw (s.unsigned, is_strict-in (rate_row rate).timebase fields s.hours s.strict)

strict-out : (rate : ℕ) (minus : Bool) (fields : List ℕ) → ¬ StrictLabel rate minus fields → length fields ≡ 4 → is_label_of Position rate minus fields ≡ false
strict-out rate minus fields never four = by (is_label_of Position rate minus fields) refl
  where
    by : (t : Bool) → is_label_of Position rate minus fields ≡ t → t ≡ false
    by true e = absurd (never (strict-told rate minus fields four e))
    by false e = refl

-- ---- 14, or what a length's reading gives
-- settling changes no refusal
pub settled-number : (kind : Kind) (r : Result Read Refusal) → number_of (settled_read kind r) ≡ number_of r
settled-number kind (Ok (Label tc)) = refl
settled-number kind (Ok (Footage tc format)) = refl
settled-number kind (Err e) = refl

module _ (l : List ℕ) (stated : Option ℕ) (rate : ℕ) where
  -- refused, and why
  pub record Fourteen (r : Result Read Refusal) : Type 0 where
    pub is : r ≡ Err not_strict
    pub unstated : stated ≡ None
    pub text : NotStrictText l rate

  label-outcome : (m : Bool) (fields : List ℕ) → stated ≡ None → LabelText l m fields → (t : Bool) → is_label_of Position rate m fields ≡ t
      → Fourteen (shaped_for Position rate stated (label m fields))
      ⊎ (shaped_for Position rate stated (label m fields) ≡ settled_read Position (read_shaped rate stated (label m fields)))
  label-outcome m fields u t true e = inr (label_of Position rate stated m fields e)
  label-outcome m fields u t false e =
      inl (record {
        is = label-not-of Position rate stated m fields e;
        unstated = u;
        text = record { minus = m; fields = fields; text = t; not-strict = λ s. false≢true (sym e ∙ strict_in rate m fields s) };
      })

  shape-outcome : (x : Shaped) → four.Kind stated l x
      → Fourteen (shaped_for Position rate stated x) ⊎ (shaped_for Position rate stated x ≡ settled_read Position (read_shaped rate stated x))
  unfolding shaped_for
  shape-outcome x (none place h longest) = inr refl
  shape-outcome x (long place h) = inr refl
  shape-outcome x (labelled {m = m} {fields = fields} u t) = label-outcome m fields u t (is_label_of Position rate m fields) refl
  shape-outcome x (filmed p t) = inr refl

  abbrev Outcome : Type 0
  Outcome = (RateAndFormat stated rate × Fourteen (read_for Position l stated rate)) ⊎ (read_for Position l stated rate ≡ settled_read Position (read_text l stated rate))

  by_format : is_rate rate ≡ true → (t : Bool) → is_stated stated ≡ t → Outcome
  by_format r false e =
      inr (for-no-format Position l stated rate r e ∙ sym (ap (settled_read Position) (no-format l stated rate r e)))
  by_format r true e =
      ⊎_elim
      (λ f. inl (record { rated = r; filmed = e }, record { is = for-shaped Position l stated rate r e ∙ f.is; unstated = f.unstated; text = f.text }))
      (λ same. inr (for-shaped Position l stated rate r e ∙ same ∙ sym (ap (settled_read Position) (read-shaped l stated rate r e))))
      (shape-outcome (shape_of stated l) (kind stated l))

  by-rate : (t : Bool) → is_rate rate ≡ t → Outcome
  by-rate false r = inr (for-no-rate Position l stated rate r ∙ sym (ap (settled_read Position) (no_rate l stated rate r)))
  by-rate true r = by_format r (is_stated stated) refl

  outcome : Outcome
  outcome = by-rate (is_rate rate) refl

  -- a length's reading never gives 14
  not-settled : read_for Position l stated rate ≡ settled_read Position (read_text l stated rate) → ¬ (number_of (read_for Position l stated rate) ≡ 14)
  not-settled same e =
      let n = sym (settled-number Position (read_text l stated rate)) ∙ sym (ap number_of same) ∙ e in
      ⊎_elim (λ h. omega (arith, n, h)) (λ h. omega (arith, n, h)) (numbers_given l stated rate)

  rated-fourteen : number_of (read_for Position l stated rate) ≡ 14 → RateAndFormat stated rate × Fourteen (read_for Position l stated rate)
  rated-fourteen e = ⊎_elim (λ f. f) (λ same. absurd (not-settled same e)) outcome

  pub fourteen : number_of (read_for Position l stated rate) ≡ 14 → Fourteen (read_for Position l stated rate)
  fourteen e = (rated-fourteen e).1

  pub not-fourteen : ¬ (number_of (read_for Position l stated rate) ≡ 14) → read_for Position l stated rate ≡ settled_read Position (read_text l stated rate)
  not-fourteen n = ⊎_elim (λ f. absurd (n (ap number_of f.1.is))) (λ same. same) outcome

-- a label of the text, with no film format stated
pub label-shape : (l : List ℕ) (stated : Option ℕ) (m : Bool) (fields : List ℕ) → stated ≡ None → LabelText l m fields → shape_of stated l ≡ label m fields
label-shape l stated m fields u t = ap (λ (s : Option ℕ). shape_of s l) u ∙ shape-label l m fields t

pub refused_fourteen : RefusedFourteen
refused_fourteen l stated rate = (
  λ e. let f = rated-fourteen l stated rate e in (f.0, (f.1.unstated, f.1.text)),
  λ x.
      let t = x.1.1 in
      ap number_of
      (for-shaped Position l stated rate x.0.rated x.0.filmed
      ∙ ap (shaped_for Position rate stated) (label-shape l stated t.minus t.fields x.1.0 t.text)
      ∙ label-not-of Position rate stated t.minus t.fields
      (strict-out rate t.minus t.fields t.not-strict (four-fields l t.minus t.fields t.text))),
)

pub place_fourteen : PlaceFourteen
place_fourteen l stated rate e = ap place_of (fourteen l stated rate e).is

pub position_else : PositionElse
position_else = not-fourteen
