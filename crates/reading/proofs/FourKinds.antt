-- Every text is of one of four kinds, and its kind says what it is taken for: no shape, too long, a label, a footage.
-- Assumes nothing.
use Rattle.std.specs.Prelude.{Option, Some, None, Ok, Err, Result}
use Prim.Native.Nat.{ℕ, max}
use mathlib.Core.Path.{◌≡◌, refl, sym, ap, subst}
use mathlib.Core.Logic.{inl, inr, ⊎_elim}
use mathlib.Core.List.{List, map}
use mathlib.Core.Bool.{Bool, true, false}
use native.Mathlib.Omega.{arith}
use Rattle.beginnings.specs.Beginning.{LongestBeginning}
use Rattle.beginnings.proofs.Statements.{longest_of_either}
use Rattle.digits.specs.Digits.{value_of}
use Rattle.answers.specs.Refusals.{at_place, no_shape, too_long}
use Rattle.scanner.specs.declared.text.Misfit.{Misfit}
use Rattle.scanner.specs.declared.text.Misfit.TheVariants.{TooLong, NoShape}
use Rattle.scanner.specs.Justified.{justified}
use Rattle.label_scan.specs.declared.LabelScan.{LabelScan}
use Rattle.label_scan.specs.Shape.{HasLabelShape, IsLabel}
use Rattle.label_scan.specs.Label.{label_scan}
use Rattle.label_scan.proofs.Statements as label-scan
use Rattle.footage_scan.specs.declared.FootageScan.{FootageScan}
use Rattle.footage_scan.specs.Shape.{FootageParts, has_perf, HasFootageShape, IsFootage, LongFootage}
use Rattle.footage_scan.specs.Footage.{footage_scan}
use Rattle.footage_scan.proofs.Statements as footage-scan
use Rattle.reading.specs.Shaped.{Shaped, label, footage, refused, label_or, footage_shaped, shape_of}
use Rattle.reading.specs.Statements.{HasShape, AllowedShape, LongShape, FootageText, LabelText}
use Rattle.reading.proofs.Shapes.{shape-label, place-long}

-- what a text is taken for, and why
pub data Kind (stated : Option ℕ) (l : List ℕ) : Shaped → Type 0 where
  none : (place : ℕ) → ((long : Bool) → ¬ HasShape stated l long) → LongestBeginning (AllowedShape stated) l place
      → Kind stated l (refused (at_place no_shape place))
  long : (place : ℕ) → LongShape stated l place → Kind stated l (refused (at_place too_long place))
  labelled : {m : Bool} {fields : List ℕ} → stated ≡ None → LabelText l m fields → Kind stated l (label m fields)
  filmed : (p : FootageParts) → FootageText l p
      → Kind stated l (footage p.minus (value_of p.feet) (value_of p.frames) (has_perf p.perf) (value_of p.perf))

-- ---- a text that can be a footage only, where the scanner of another shape stopped at a place
module _ (stated : Option ℕ) (l : List ℕ) (stopped : ℕ)
    (Long-of : (place : ℕ) → LongFootage l place → LongShape stated l place)
    (footage-of : (long : Bool) → HasShape stated l long → HasFootageShape l long)
    (longest-of : (stop : ℕ) → LongestBeginning IsFootage l stop → LongestBeginning (AllowedShape stated) l (max stopped stop)) where
  by-footage : (v : Result FootageScan Misfit) → footage_scan l ≡ v → Kind stated l (footage_shaped stopped (footage_scan l))
  by-footage (Ok scan) e =
      let h = (footage-scan.footage_fits l).0 (scan, e) in
      subst (λ s. Kind stated l (footage_shaped stopped s)) (sym (footage-scan.footage_reads l h.parts h.shape h.digits))
      (filmed h.parts (record { shape = h.shape; short = h.digits }))
  by-footage (Err (TooLong place)) e =
      subst (Kind stated l) (sym (ap (footage_shaped stopped) e))
      (long place (Long-of place (footage-scan.footage-fit-long l place e)))
  by-footage (Err (NoShape stop)) e =
      subst (Kind stated l) (sym (ap (footage_shaped stopped) e))
      (none (max stopped stop)
      (λ t h. let f = footage-of t h in footage-scan.footage-fit-none l stop e f.parts f.shape)
      (longest-of stop (footage-scan.footage-fit-stop l stop e)))

  footage-kind : Kind stated l (footage_shaped stopped (footage_scan l))
  footage-kind = by-footage (footage_scan l) refl

-- ---- a text that can be a label too
by-label : (l : List ℕ) (v : Result LabelScan Misfit) → label_scan l ≡ v → Kind None l (shape_of None l)
by-label l (Ok scan) e =
    let h = (label-scan.label_fits l).0 (scan, e) in
    let t : LabelText l h.minus (justified (map value_of h.fields)) =
    record { digits = h.fields; shape = h.shape; short = h.digits; values = refl } in
    subst (Kind None l) (sym (shape-label l h.minus (justified (map value_of h.fields)) t)) (labelled refl t)
by-label l (Err (TooLong place)) e =
    subst (Kind None l) (sym (ap (label_or (λ n. footage_shaped n (footage_scan l))) e))
    (long place (inl (label-scan.label-fit-long l place e)))
by-label l (Err (NoShape stop)) e =
    subst (Kind None l) (sym (ap (label_or (λ n. footage_shaped n (footage_scan l))) e))
    (footage-kind None l stop (λ place f. inr f)
    (λ t h. ⊎_elim (λ s. absurd (label-scan.label-fit-none l stop e s.minus s.fields s.shape)) (λ f. f) h)
    (λ n f. longest_of_either IsLabel IsFootage l stop n (label-scan.label-fit-stop l stop e) f))

-- with a stated format no other shape is allowed
alone : (n : ℕ) → max 0 n ≡ n
alone n = omega arith

pub kind : (stated : Option ℕ) (l : List ℕ) → Kind stated l (shape_of stated l)
kind None l = by-label l (label_scan l) refl
kind (Some n) l = footage-kind (Some n) l 0 (λ place f. f) (λ t f. f) (λ stop f. subst (LongestBeginning IsFootage l) (sym (alone stop)) f)

-- ---- a text of no shape
footage-shape : (stated : Option ℕ) (l : List ℕ) (t : Bool) → HasFootageShape l t → HasShape stated l t
footage-shape None l t h = inr h
footage-shape (Some n) l t h = h

label-shape : (stated : Option ℕ) (l : List ℕ) (t : Bool) → stated ≡ None → HasLabelShape l t → HasShape stated l t
label-shape stated l t u h = subst (λ (s : Option ℕ). HasShape s l t) (sym u) (inl h)

none-by : (stated : Option ℕ) (l : List ℕ) (x : Shaped) → Kind stated l x → ((t : Bool) → ¬ HasShape stated l t)
    → (place : ℕ) × (x ≡ refused (at_place no_shape place))
none-by stated l x (none place h longest) no-shape = (place, refl)
none-by stated l x (long place h) no-shape = absurd (no-shape true (place-long stated l place h))
none-by stated l x (labelled {m = m} u t) no-shape =
    absurd (no-shape false (label-shape stated l false u (record { minus = m; fields = t.digits; shape = t.shape; digits = t.short })))
none-by stated l x (filmed p t) no-shape =
    absurd (no-shape false (footage-shape stated l false (record { parts = p; shape = t.shape; digits = t.short })))

pub shape-none : (stated : Option ℕ) (l : List ℕ) → ((t : Bool) → ¬ HasShape stated l t) → (place : ℕ) × (shape_of stated l ≡ refused (at_place no_shape place))
shape-none stated l no-shape = none-by stated l (shape_of stated l) (kind stated l) no-shape
