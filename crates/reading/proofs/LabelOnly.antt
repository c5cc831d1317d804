-- What a text reads as where only a label may stand, proved: by how its scan fits.
-- Assumes nothing.
use Rattle.std.specs.Prelude.{None, Ok, Err, Result}
use Prim.Native.Nat.{ℕ}
use native.Mathlib.Omega.{arith}
use mathlib.Core.Path.{◌≡◌, refl, sym, ap, ◌∙◌, subst}
use mathlib.Core.Logic.{◌⊎◌, inl, inr}
use mathlib.Core.List.{List, map}
use mathlib.Core.Bool.{Bool, true, false}
use lib.IntN.{pos}
use Rattle.digits.specs.Digits.{value_of}
use Rattle.answers.specs.declared.Refusal.{Refusal}
use Rattle.answers.specs.Refusals.{at_place, no_shape, too_long, not_strict, dropped_label}
use Rattle.rates.specs.Rates.{is_rate, rate_row, drop_frames}
use Rattle.timecodes.specs.declared.kinds.Kind.{Kind}
use Rattle.timecodes.specs.declared.kinds.Kind.TheVariants.{Position}
use Rattle.timecodes.specs.Timecode.{position}
use Rattle.labels.specs.Label.{count_in, dropped_in}
use Rattle.scanner.specs.declared.text.Misfit.{Misfit}
use Rattle.scanner.specs.declared.text.Misfit.TheVariants.{TooLong, NoShape}
use Rattle.scanner.specs.Justified.{justified}
use Rattle.label_scan.specs.declared.LabelScan.{LabelScan}
use Rattle.label_scan.specs.Shape.{HasLabelShape}
use Rattle.label_scan.specs.Label.{label_scan}
use Rattle.label_scan.proofs.Statements as label-scan
use Rattle.footage_scan.specs.Footage.{footage_scan}
use Rattle.reading.specs.declared.Read.{Read}
use Rattle.reading.specs.declared.Read.TheVariants.{Label}
use Rattle.reading.specs.Shaped.{Shaped, label, refused, label_or, footage_shaped, shape_of, label_only}
use Rattle.reading.specs.ReadingLaws.{label-dropped}
use Rattle.reading.specs.For.{settled_read, is_label_of, shaped_for, read_by, label_for}
use Rattle.reading.specs.ForLaws.{label-not-of, label_of, refused-for, by-no-rate, by-shaped}
use Rattle.reading.proofs.ByShape.{read-by-shape}
use Rattle.reading.specs.Statements.{RateAndFormat, LabelText}
use Rattle.reading.specs.Positions.{DayText}
use Rattle.reading.specs.LabelOnly.{LabelNoRate, LabelAsRead, LabelNone, LabelPosition, LabelsOwn, LabelOrOwn}
use Rattle.reading.proofs.Positions.{four-fields, strict-told, label-shape}
use Rattle.reading.proofs.PositionCounts.{position_label}

pub label_no_rate : LabelNoRate
unfolding label_for
label_no_rate kind l rate e = by-no-rate kind None rate (label_only l) e

-- ---- by how the scan fits
abbrev none : (stop : ℕ) → Shaped
none stop = refused (at_place no_shape stop)

abbrev footage_too : List ℕ → (stop : ℕ) → Shaped
footage_too l stop = footage_shaped stop (footage_scan l)

-- a text of the shape is taken as the text reader takes it
same_shape : (l : List ℕ) (long : Bool) → HasLabelShape l long → (v : Result LabelScan Misfit) → label_scan l ≡ v → label_only l ≡ shape_of None l
same_shape l long h (Ok scan) e = ap (label_or none) e ∙ sym (ap (label_or (footage_too l)) e)
same_shape l long h (Err (TooLong place)) e = ap (label_or none) e ∙ sym (ap (label_or (footage_too l)) e)
same_shape l long h (Err (NoShape stop)) e = absurd (label-scan.label-fit-none l stop e h.minus h.fields h.shape)

pub label_as_read : LabelAsRead
unfolding label_for
label_as_read kind l rate long h =
    ap (read_by kind None rate) (same_shape l long h (label_scan l) refl) ∙ sym (read-by-shape kind l None rate)

-- what is refused by its shape is refused so at any rate
shape-refused : (kind : Kind) (l : List ℕ) (rate : ℕ) (e : Refusal) → is_rate rate ≡ true → label_only l ≡ refused e → label_for kind l rate ≡ Err e
unfolding label_for
shape-refused kind l rate e r h = ap (read_by kind None rate) h ∙ by-shaped kind None rate (refused e) r refl ∙ refused-for kind rate None e

pub label_none : LabelNone
label_none kind l rate place r h longest =
    shape-refused kind l rate (at_place no_shape place) r
    (ap (label_or none) ((label-scan.label_no_shape l place).1 (λ m fields shape. h _ (record { minus = m; fields = fields; shape = shape; digits = refl }), longest)))

-- ---- the count of a position's label
labelled : (l : List ℕ) (minus : Bool) (fields : List ℕ) → LabelText l minus fields → HasLabelShape l false
labelled l minus fields t = record { minus = minus; fields = t.digits; shape = t.shape; digits = t.short }

any-format : (rate : ℕ) → is_rate rate ≡ true → RateAndFormat None rate
any-format rate r = record { rated = r; filmed = refl }

day-back : (l : List ℕ) (rate n : ℕ) → is_rate rate ≡ true → DayText l None rate n → label_for Position l rate ≡ Ok (Label (position (pos n) rate))
day-back l rate n r x =
    label_as_read Position l rate false (labelled l false x.fields x.text) ∙ (position_label l None rate n (any-format rate r)).1 x

-- a refusal is no label
not-refused : (x : Result Read Refusal) (e : Refusal) (n rate : ℕ) → x ≡ Err e → x ≡ Ok (Label (position (pos n) rate)) → ⊥
not-refused x e n rate h k = let z : ◌≡◌ {A = ℕ} 0 1 = cc in omega (arith, z)

day-forth : (l : List ℕ) (rate n : ℕ) → is_rate rate ≡ true → label_for Position l rate ≡ Ok (Label (position (pos n) rate))
    → (v : Result LabelScan Misfit) → label_scan l ≡ v → DayText l None rate n
day-forth l rate n r k (Ok scan) e =
    (position_label l None rate n (any-format rate r)).0 (sym (label_as_read Position l rate false ((label-scan.label_fits l).0 (scan, e))) ∙ k)
day-forth l rate n r k (Err (TooLong place)) e =
    absurd (not-refused _ _ n rate (shape-refused Position l rate _ r (ap (label_or none) e)) k)
day-forth l rate n r k (Err (NoShape stop)) e =
    absurd (not-refused _ _ n rate (shape-refused Position l rate _ r (ap (label_or none) e)) k)

pub label_position : LabelPosition
label_position l rate n r = (λ k. day-forth l rate n r k (label_scan l) refl, λ x. day-back l rate n r x)

-- ---- a label, or one of its own refusals
abbrev Either : List ℕ → (rate : ℕ) → Type 0
Either l rate =
    ((n : ℕ) × (label_for Position l rate ≡ Ok (Label (position (pos n) rate)))) ⊎ ((e : Refusal) × ((label_for Position l rate ≡ Err e) × LabelsOwn e))

module _ (l : List ℕ) (rate : ℕ) (r : is_rate rate ≡ true) (m : Bool) (fields : List ℕ) (t : LabelText l m fields) where
  -- what the reader does with its fields
  by-fields : label_for Position l rate ≡ shaped_for Position rate None (label m fields)
  by-fields =
      label_as_read Position l rate false (labelled l m fields t)
      ∙ read-by-shape Position l None rate
      ∙ by-shaped Position None rate (shape_of None l) r refl
      ∙ ap (shaped_for Position rate None) (label-shape l None m fields refl t)

  by-dropped : is_label_of Position rate m fields ≡ true → (d : Bool) → dropped_in (drop_frames rate) fields ≡ d → Either l rate
  by-dropped s true d =
      inr (dropped_label, (by-fields ∙ label_of Position rate None m fields s ∙ ap (settled_read Position) (label-dropped rate m fields d), inr (inr (inr refl))))
  by-dropped s false d =
      let strict = strict-told rate m fields (four-fields l m fields t) s in
      let n = count_in (rate_row rate).timebase (drop_frames rate) fields in
      inl (
        n,
        day-back l rate n r (record {
          unstated = refl;
          fields = fields;
          text = subst (λ (k : Bool). LabelText l k fields) strict.unsigned t;
          label = record { hours = strict.hours; label = record { strict = strict.strict; allowed = d; count = refl } };
        }),
      )

  by-strict : (s : Bool) → is_label_of Position rate m fields ≡ s → Either l rate
  by-strict true s = by-dropped s (dropped_in (drop_frames rate) fields) refl
  by-strict false s = inr (not_strict, (by-fields ∙ label-not-of Position rate None m fields s, inr (inr (inl refl))))

by-fit : (l : List ℕ) (rate : ℕ) → is_rate rate ≡ true → (v : Result LabelScan Misfit) → label_scan l ≡ v → Either l rate
by-fit l rate r (Ok scan) e =
    let h = (label-scan.label_fits l).0 (scan, e) in
    let fields = justified (map value_of h.fields) in
    by-strict l rate r h.minus fields (record { digits = h.fields; shape = h.shape; short = h.digits; values = refl })
    (is_label_of Position rate h.minus fields) refl
by-fit l rate r (Err (TooLong place)) e =
    inr (at_place too_long place, (shape-refused Position l rate _ r (ap (label_or none) e), inr (inl refl)))
by-fit l rate r (Err (NoShape stop)) e = inr (at_place no_shape stop, (shape-refused Position l rate _ r (ap (label_or none) e), inl refl))

pub label_or_own : LabelOrOwn
label_or_own l rate r = by-fit l rate r (label_scan l) refl
