-- A text reads as its shape says, in one way only, and each fit is given exactly: the scan of a text by a footage's grammar.
-- Assumes nothing.
use Rattle.std.specs.Prelude.{Ok, Err}
use Prim.Native.Nat.{ℕ, ◌^◌, ◌<◌}
use mathlib.Core.Path.{◌≡◌, refl, sym, ap, ap₂, ◌∙◌, subst}
use mathlib.Core.List.{List, [], ◌∷◌, ◌++◌, append-nil, append_assoc}
use mathlib.Core.Bool.{Bool, true, false}
use native.Mathlib.Omega.{arith}
use lib.ListN.{length}
use borrow.Author.Tests.{lt-ltb, ltb-false}
use Rattle.beginnings.specs.Beginning.{LongestBeginning}
use Rattle.digits.specs.Digits.{all_digits, IsField, value_from, value_of, decimal}
use Rattle.digits.proofs.Width.{decimal_back}
use Rattle.scanner.specs.declared.fields.Dividers.{Dividers}
use Rattle.scanner.specs.declared.fields.Dividers.TheVariants.{Plus}
use Rattle.scanner.specs.declared.text.Misfit.TheVariants.{TooLong, NoShape}
use Rattle.scanner.specs.Long.{is_long, fields_long, ShortField}
use Rattle.scanner.specs.Text.{named, text_scan}
use Rattle.scanner.specs.Shapes.{FieldsShape, last, more, pointed, TextParts, text_parts, with_minus, TextShape, some_long, HasTextShape, Possible}
use Rattle.scanner.proofs.Long.{neither, not-long, value-short, written-short}
use Rattle.scanner.proofs.Bodies.{point-some}
use Rattle.scanner.proofs.Statements.{one_text_shape, text_bounded, fields-count, fit-told, named-ok, named-err, text-short, text-long, long-place, place-long, stop_longest, text-stops}
use Rattle.footage_scan.specs.declared.FootageScan.{FootageScan}
use Rattle.footage_scan.specs.Shape.{footage_grammar, footage_parts, as_text, has_perf, footage_long, HasFootageShape, FootageParts, FootageShape, IsFootage, LongFootage}
use Rattle.footage_scan.specs.Footage.{fitting_footage, footage_from, footage_scan}
use Rattle.footage_scan.specs.Statements.{FootageReads, PerfPresent, FootageFits, FootageTooLong, FootageNoShape, OneFootageShape, FootageBelow, FootageTextBack}

-- ---- a footage's grammar asks for two fields
pub record Two (fields : List (List ℕ)) : Type 0 where
  pub feet : List ℕ
  pub frames : List ℕ
  pub is : feet ∷ frames ∷ [] ≡ fields

two : (fields : List (List ℕ)) → length fields ≡ 2 → Two fields
two [] e = absurd (omega arith)
two (d ∷ []) e = absurd (omega arith)
two (d ∷ f ∷ []) e = record { feet = d; frames = f; is = refl }
two (d ∷ f ∷ r ∷ fs) e = absurd (omega arith)

two_fields : (l : List ℕ) (p : TextParts) → TextShape footage_grammar l p → Two p.fields
two_fields l p t = let c = fields-count footage_grammar l p t in two p.fields (omega (arith, c.0, c.1))

has-footage : (l : List ℕ) (long : Bool) → HasTextShape footage_grammar l long → HasFootageShape l long
has-footage l long h =
    let p = h.parts in
    let t = two_fields l p h.shape in
    let q = footage_parts p.minus t.feet t.frames p.tail in
    let e : as_text q ≡ p = ap (λ (x : List (List ℕ)). text_parts p.minus x p.tail) t.is in
    record { parts = q; shape = rw e h.shape; digits = ap (some_long footage_grammar) e ∙ h.digits }

-- feet and frames are fields
first_field : {d : Dividers} {k : ℕ} {l f : List ℕ} {fs : List (List ℕ)} → FieldsShape d k l (f ∷ fs) → IsField f
first_field (last i) = i
first_field (more i c e r) = i

second-field : (l f g : List ℕ) → FieldsShape Plus 2 l (f ∷ g ∷ []) → IsField g
second-field l f g (more i c e r) = first_field r

pub footage-fields : (l : List ℕ) (p : FootageParts) → FootageShape l p → IsField p.feet × IsField p.frames
footage-fields l p t = let s = t.shape in (first_field s.shape, second-field s.front p.feet p.frames s.shape)

-- ---- each fit
pub footage_reads : FootageReads
unfolding footage_scan
footage_reads l p shape short =
    let perf = (neither (is_long (length p.perf)) (fields_long (p.feet ∷ p.frames ∷ [])) short).0 in
    ap (named footage_from) (text-short footage_grammar l (as_text p) shape short)
    ∙ ap (λ (v : ℕ). Ok (fitting_footage p.minus (value_of p.feet) (value_of p.frames) (has_perf p.perf) v)) (value-short p.perf perf)

pub perf_present : PerfPresent
perf_present [] = (λ e. refl, λ e. refl)
perf_present (b ∷ perf) = (λ e. let none = ltb-false 0 (length (b ∷ perf)) e in absurd (omega arith), λ e. ap has_perf e)

pub footage_fits : FootageFits
unfolding footage_scan
footage_fits l = (
  λ p. let t = named-ok footage_from (text_scan footage_grammar l) p.0 p.1 in has-footage l false (fit-told footage_grammar l (Ok t.0) t.1),
  λ h. (_, footage_reads l h.parts h.shape h.digits),
)

pub footage_too_long : FootageTooLong
unfolding footage_scan
footage_too_long l place = (
  λ e. fit-told footage_grammar l (Err (TooLong place)) (named-err footage_from (text_scan footage_grammar l) (TooLong place) e),
  λ h. ap (named footage_from) (text-long footage_grammar l place h),
)

-- where something is too long, the first such field has a place, and back
pub footage-long-place : (l : List ℕ) → HasFootageShape l true → (place : ℕ) × LongFootage l place
footage-long-place l h = long-place footage_grammar l (record { parts = as_text h.parts; shape = h.shape; digits = h.digits })

pub footage-place-long : (l : List ℕ) (place : ℕ) → LongFootage l place → HasFootageShape l true
footage-place-long l place h = has-footage l true (place-long footage_grammar l place h)

-- there are footages
possible : Possible footage_grammar
possible = record { some = omega arith; enough = omega arith }

-- ---- what the fit alone tells
pub footage-fit-long : (l : List ℕ) (place : ℕ) → footage_scan l ≡ Err (TooLong place) → LongFootage l place
unfolding footage_scan
footage-fit-long l place e = fit-told footage_grammar l (Err (TooLong place)) (named-err footage_from (text_scan footage_grammar l) (TooLong place) e)

pub footage-fit-none : (l : List ℕ) (stop : ℕ) → footage_scan l ≡ Err (NoShape stop) → (p : FootageParts) → ¬ FootageShape l p
unfolding footage_scan
footage-fit-none l stop e p = fit-told footage_grammar l (Err (NoShape stop)) (named-err footage_from (text_scan footage_grammar l) (NoShape stop) e) (as_text p)

pub footage-fit-stop : (l : List ℕ) (stop : ℕ) → footage_scan l ≡ Err (NoShape stop) → LongestBeginning IsFootage l stop
unfolding footage_scan
footage-fit-stop l stop e = stop_longest footage_grammar l stop possible (named-err footage_from (text_scan footage_grammar l) (NoShape stop) e)

-- a text that is no footage is none by the grammar
no_text : (l : List ℕ) → ((p : FootageParts) → ¬ FootageShape l p) → (p : TextParts) → ¬ TextShape footage_grammar l p
no_text l h p t =
    let q = has-footage l (some_long footage_grammar p) (record { parts = p; shape = t; digits = refl }) in h q.parts q.shape

pub footage_no_shape : FootageNoShape
unfolding footage_scan
footage_no_shape l stop = (
  λ e. (footage-fit-none l stop e, footage-fit-stop l stop e),
  λ h. ap (named footage_from) (text-stops footage_grammar l stop possible (no_text l h.0) h.1),
)

pub one_footage_shape : OneFootageShape
one_footage_shape l p q s t =
    let e = one_text_shape footage_grammar l (as_text p) (as_text q) s t in
    let fields : p.feet ∷ p.frames ∷ [] ≡ q.feet ∷ q.frames ∷ [] = ap (λ (x : TextParts). x.fields) e in
    let feet : p.feet ≡ q.feet = cc in
    let frames : p.frames ≡ q.frames = cc in
    ap₂ (λ (x y : List ℕ). footage_parts p.minus x y p.perf) feet frames
    ∙ ap₂ (λ (m : Bool) (x : List ℕ). footage_parts m q.feet q.frames x) (ap (λ (x : TextParts). x.minus) e) (ap (λ (x : TextParts). x.tail) e)

pub footage_below : FootageBelow
unfolding footage_scan
footage_below l scan e =
    let t = named-ok footage_from (text_scan footage_grammar l) scan e in
    let b = text_bounded footage_grammar l t.0 t.1 in
    subst (λ (x : FootageScan). (x.feet < 10 ^ 9) × (x.frames < 10 ^ 9) × (x.marker < 10 ^ 9)) t.2 (b.below 2, b.below 3, b.tail)

-- ---- written and read
-- two fields divided by `+`, and digits behind a `.` or none, are a footage
pub footage-shape : (m : Bool) (d e w : List ℕ) → IsField d → IsField e → all_digits w ≡ true
    → FootageShape (with_minus m ((d ++ 43 ∷ e) ++ pointed w)) (footage_parts m d e w)
footage-shape m d e w i j digits =
    record {
      body = (d ++ 43 ∷ e) ++ pointed w;
      shape = record {
        front = d ++ 43 ∷ e;
        shape = more i 43 refl (last j);
        enough = omega arith;
        digits = digits;
        allowed = λ z. omega arith;
        all = refl;
      };
      text = refl;
    }

-- none of its fields is too long, where none has over 9 digits
pub footage-short : (m : Bool) (d e w : List ℕ) → ShortField d → ShortField e → is_long (length w) ≡ false → footage_long (footage_parts m d e w) ≡ false
unfolding fields_long
footage-short m d e w i j short = rw (short, not-long d i, not-long e j)

module _ (m : Bool) (feet frames : ℕ) (h : feet < 10 ^ 9) (k : frames < 10 ^ 9) where
  -- with any digits behind a `.`, or none
  text-back : (w : List ℕ) → all_digits w ≡ true → is_long (length w) ≡ false
      → footage_scan (with_minus m ((decimal 1 feet ++ 43 ∷ decimal 2 frames) ++ pointed w)) ≡ Ok (fitting_footage m feet frames (has_perf w) (value_of w))
  text-back w digits short =
      let i = written-short 1 feet (omega arith) h in
      let j = written-short 2 frames (omega arith) k in
      footage_reads (with_minus m ((decimal 1 feet ++ 43 ∷ decimal 2 frames) ++ pointed w)) (footage_parts m (decimal 1 feet) (decimal 2 frames) w)
      (footage-shape m (decimal 1 feet) (decimal 2 frames) w i.is j.is digits)
      (footage-short m (decimal 1 feet) (decimal 2 frames) w i j short)
      ∙ rw (decimal_back 1 feet, decimal_back 2 frames)

pub footage_text_back : FootageTextBack
unfolding all_digits value_from
footage_text_back m feet frames h k = (
  ap (λ (x : List ℕ). footage_scan (with_minus m x)) (sym (append-nil (decimal 1 feet ++ 43 ∷ decimal 2 frames)))
      ∙ text-back m feet frames h k [] refl refl,
  λ perf j. let f = written-short 1 perf (omega arith) j in
      let w = decimal 1 perf in
      ap (λ (x : List ℕ). footage_scan (with_minus m x))
      (sym (append_assoc (decimal 1 feet) (43 ∷ decimal 2 frames) (46 ∷ w))
      ∙ ap (λ (x : List ℕ). (decimal 1 feet ++ 43 ∷ decimal 2 frames) ++ x) (sym (point-some w f.is.some)))
      ∙ text-back m feet frames h k w f.is.digits (not-long w f)
      ∙ ap₂ (λ (p : Bool) (v : ℕ). Ok (fitting_footage m feet frames p v)) (lt-ltb 0 (length w) f.is.some) (decimal_back 1 perf),
)
