-- What a text is taken for that has a shape: its label, its footage, or too long; no text has both shapes.
-- Assumes nothing.
use Rattle.std.specs.Prelude.{Option, Some, None, Err}
use Prim.Native.Nat.{ℕ}
use mathlib.Core.Path.{◌≡◌, refl, sym, ap, ◌∙◌, subst}
use mathlib.Core.Logic.{inl, inr, ⊎_elim}
use mathlib.Core.List.{List, [], ◌∷◌, ◌++◌, append_assoc}
use mathlib.Core.Bool.{Bool, true, false}
use borrow.Author.Tests.{eqb-true}
use Rattle.digits.specs.Digits.{is_digit, value_of}
use Rattle.answers.specs.Refusals.{at_place, too_long}
use Rattle.scanner.specs.declared.fields.Dividers.TheVariants.{Plus}
use Rattle.scanner.specs.declared.text.Misfit.TheVariants.{NoShape}
use Rattle.scanner.specs.Scan.{is_divider}
use Rattle.scanner.specs.Shapes.{FieldsShape, more, pointed, with_minus}
use Rattle.label_scan.specs.Shape.{LongLabel}
use Rattle.label_scan.specs.Label.{label_scan}
use Rattle.label_scan.proofs.Apart.{no_label}
use Rattle.label_scan.proofs.Statements.{label_reads, label_too_long, label_no_shape, label-long-place, label-place-long}
use Rattle.footage_scan.specs.Shape.{FootageParts, FootageShape, has_perf, LongFootage}
use Rattle.footage_scan.specs.Footage.{footage_scan}
use Rattle.footage_scan.proofs.Statements.{footage_reads, footage_too_long, footage-long-place, footage-place-long}
use Rattle.reading.specs.Shaped.{label, footage, footage_shaped, label_or, shape_of}
use Rattle.reading.specs.Shaped as shaped
use Rattle.reading.specs.Statements.{ShapesApart, HasShape, LongShape, FootageText, LabelText}

-- ---- a footage is no label: `+` stands behind its first field
after_plus : (front feet : List ℕ) (others : List (List ℕ)) (frames : List ℕ) → FieldsShape Plus 2 front (feet ∷ frames ∷ others)
    → (tail : List ℕ) (m : Bool) → (stop : ℕ) × (label_scan (with_minus m (front ++ tail)) ≡ Err (NoShape stop))
after_plus front feet others frames (more {l = r} i c e rest) tail m =
    let plus : c ≡ 43 = eqb-true c 43 e in
    let none = no_label feet c (r ++ tail) i (subst (λ (k : ℕ). is_digit k ≡ false) (sym plus) refl) (subst (λ (k : ℕ). is_divider k ≡ false) (sym plus) refl) m in
    (none.0, ap (λ (k : List ℕ). label_scan (with_minus m k)) (append_assoc feet (c ∷ r) tail) ∙ none.1)

pub no-label-scan : (l : List ℕ) (p : FootageParts) → FootageShape l p → (stop : ℕ) × (label_scan l ≡ Err (NoShape stop))
no-label-scan l p t =
    let s = t.shape in
    let none = after_plus s.front p.feet [] p.frames s.shape (pointed p.perf) p.minus in
    (none.0, ap label_scan (sym (ap (with_minus p.minus) s.all ∙ t.text)) ∙ none.1)

pub shapes_apart : ShapesApart
shapes_apart l m fields p shape other = let none = no-label-scan l p other in ((label_no_shape l none.0).0 none.1).0 m fields shape

-- ---- a text that has no label's shape is taken for what it is as a footage, whether a format is stated or not
-- where another scanner stopped: a label's, but with a stated format there is none
abbrev stopped_at : Option ℕ → (stop : ℕ) → ℕ
stopped_at None stop = stop
stopped_at (Some n) stop = 0

as-footage : (stated : Option ℕ) (l : List ℕ) (stop : ℕ) → label_scan l ≡ Err (NoShape stop)
    → shape_of stated l ≡ footage_shaped (stopped_at stated stop) (footage_scan l)
as-footage None l stop e = ap (label_or (λ n. footage_shaped n (footage_scan l))) e
as-footage (Some n) l stop e = refl

-- ---- what each shape gives
pub shape-label : (l : List ℕ) (m : Bool) (fields : List ℕ) → LabelText l m fields → shape_of None l ≡ label m fields
shape-label l m fields t =
    ap (label_or (λ n. footage_shaped n (footage_scan l))) (label_reads l m t.digits t.shape t.short)
    ∙ ap (label m) t.values

pub shape-footage : (stated : Option ℕ) (l : List ℕ) (p : FootageParts) → FootageText l p
    → shape_of stated l ≡ footage p.minus (value_of p.feet) (value_of p.frames) (has_perf p.perf) (value_of p.perf)
shape-footage stated l p t =
    let none = no-label-scan l p t.shape in
    as-footage stated l none.0 none.1 ∙ ap (footage_shaped (stopped_at stated none.0)) (footage_reads l p t.shape t.short)

long-label : (l : List ℕ) (place : ℕ) → LongLabel l place → shape_of None l ≡ shaped.refused (at_place too_long place)
long-label l place h = ap (label_or (λ n. footage_shaped n (footage_scan l))) ((label_too_long l place).1 h)

long-footage : (stated : Option ℕ) (l : List ℕ) (place : ℕ) → LongFootage l place → shape_of stated l ≡ shaped.refused (at_place too_long place)
long-footage stated l place h =
    let f = footage-place-long l place h in
    let none = no-label-scan l f.parts f.shape in
    as-footage stated l none.0 none.1 ∙ ap (footage_shaped (stopped_at stated none.0)) ((footage_too_long l place).1 h)

pub shape-long : (stated : Option ℕ) (l : List ℕ) (place : ℕ) → LongShape stated l place → shape_of stated l ≡ shaped.refused (at_place too_long place)
shape-long None l place h = ⊎_elim (long-label l place) (long-footage None l place) h
shape-long (Some n) l place h = long-footage (Some n) l place h

-- ---- where a field is too long, the first such has a place, and back
pub long-place : (stated : Option ℕ) (l : List ℕ) → HasShape stated l true → (place : ℕ) × LongShape stated l place
long-place None l h =
    ⊎_elim
    (λ s. let q = label-long-place l s in (q.0, inl q.1))
    (λ s. let q = footage-long-place l s in (q.0, inr q.1))
    h
long-place (Some n) l h = footage-long-place l h

pub place-long : (stated : Option ℕ) (l : List ℕ) (place : ℕ) → LongShape stated l place → HasShape stated l true
place-long None l place h = ⊎_elim (λ s. inl (label-place-long l place s)) (λ s. inr (footage-place-long l place s)) h
place-long (Some n) l place h = footage-place-long l place h
