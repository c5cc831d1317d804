-- A text reads as its shape says, in one way only, and each fit says what is so.
-- Assumes nothing.
use Rattle.std.specs.Prelude.{Option, Some, None, Result, Ok, Err}
use Prim.Native.Nat.{ℕ, ◌≤◌}
use mathlib.Core.Path.{◌≡◌, refl, sym, ap, ◌∙◌, subst}
use mathlib.Core.Logic.{⊎_elim}
use mathlib.Core.List.{List, map}
use mathlib.Core.Bool.{true, false}
use native.Mathlib.Omega.{arith}
use lib.ListN.{length}
use Rattle.beginnings.specs.Beginning.{LongestBeginning}
use Rattle.beginnings.proofs.Statements.{one_longest}
use Rattle.digits.specs.Digits.{value_of, field_value}
use Rattle.digits.proofs.Runs.{field_below}
use Rattle.scanner.specs.declared.fields.Dividers.{Dividers}
use Rattle.scanner.specs.declared.text.Misfit.{Misfit}
use Rattle.scanner.specs.declared.text.Misfit.TheVariants.{TooLong, NoShape}
use Rattle.scanner.specs.declared.text.Grammar.{Grammar}
use Rattle.scanner.specs.declared.text.TextScan.{TextScan}
use Rattle.scanner.specs.Long.{is_over, fields_long, first_long}
use Rattle.scanner.specs.Justified.{justified}
use Rattle.scanner.specs.Text.{fitting, unless_long, text_scan, named}
use Rattle.scanner.specs.Shapes.{FieldsShape, last, more, TextParts, TextShape, some_long, HasTextShape, OfGrammar, Possible, fields_of, LongText}
use Rattle.scanner.specs.Statements.{parts_read, TextReads, FitSays, FitSound, StopLongest, ShapeAscii, FieldsStand, OneTextShape, TextBounds, TextBounded}
use Rattle.scanner.proofs.Long.{neither, values-short, is_some, some-long, some-nowhere, some-place, first-told, first_gives}
use Rattle.scanner.proofs.Justified.{justified-length, justified-below, values-below}
use Rattle.scanner.proofs.Signed as signed
use Rattle.scanner.proofs.OneShape as one
use Rattle.scanner.proofs.Stops.{longest-stop}
use Rattle.scanner.proofs.Standing as standing
use Rattle.scanner.proofs.Ascii as ascii

pub text_reads : TextReads
text_reads = signed.text_reads

pub one_text_shape : OneTextShape
one_text_shape = one.one_text_shape

-- ---- each fit
module _ (g : Grammar) (l : List ℕ) where
  -- a text of the shape is not without it
  has-shape : (p : TextParts) (stop : ℕ) (long : Option ℕ) → unless_long long (parts_read p) ≡ Err (NoShape stop) → ⊥
  has-shape p stop (Some place) e = let z : ◌≡◌ {A = ℕ} 0 1 = cc in omega arith
  has-shape p stop None e = let z : ◌≡◌ {A = ℕ} 0 1 = cc in omega arith

  -- something in it is too long, exactly where the first such field has a place
  long-is : (p : TextParts) (long : Option ℕ) → first_long (fields_of g p) ≡ long → some_long g p ≡ is_some long
  long-is p long e = sym (some-long g p) ∙ ap is_some e

  shape-says : (p : TextParts) → TextShape g l p → (long : Option ℕ) → first_long (fields_of g p) ≡ long → FitSays g l (unless_long long (parts_read p))
  shape-says p shape (Some place) e = record { parts = p; shape = shape; first = first-told (fields_of g p) place e }
  shape-says p shape None e = record { parts = p; shape = shape; digits = long-is p None e }

  fit-says : FitSays g l (text_scan g l)
  fit-says =
      ⊎_elim
      (λ e. subst (FitSays g l) (sym e) (λ p shape. has-shape p (signed.text_stop g l) (first_long (fields_of g p)) (sym (text_reads g l p shape) ∙ e)))
      (λ s. subst (FitSays g l) (sym (text_reads g l s.0 s.1)) (shape-says s.0 s.1 (first_long (fields_of g s.0)) refl))
      (signed.text-found g l)

  pub fit-told : (f : Result TextScan Misfit) → text_scan g l ≡ f → FitSays g l f
  fit-told f e = subst (FitSays g l) e fit-says

  -- ---- and what is said gives it
  pub text-short : (p : TextParts) → TextShape g l p → some_long g p ≡ false
      → text_scan g l ≡ Ok (fitting p.minus (justified (map value_of p.fields)) (field_value p.tail) (length p.tail))
  text-short p shape e =
      text_reads g l p shape
      ∙ ap (λ (long : Option ℕ). unless_long long (parts_read p)) (some-nowhere (first_long (fields_of g p)) (some-long g p ∙ e))
      ∙ ap (λ (values : List ℕ). Ok (fitting p.minus (justified values) (field_value p.tail) (length p.tail)))
      (values-short p.fields (neither (is_over g.tail (length p.tail)) (fields_long p.fields) e).1)

  pub text-long : (place : ℕ) → LongText g l place → text_scan g l ≡ Err (TooLong place)
  text-long place h =
      text_reads g l h.parts h.shape
      ∙ ap (λ (long : Option ℕ). unless_long long (parts_read h.parts)) (first_gives (fields_of g h.parts) place h.first)

  -- where something is too long, the first such field has a place, and back
  pub long-place : HasTextShape g l true → (place : ℕ) × LongText g l place
  long-place h =
      let s = some-place (first_long (fields_of g h.parts)) (some-long g h.parts ∙ h.digits) in
      (s.0, record { parts = h.parts; shape = h.shape; first = first-told (fields_of g h.parts) s.0 s.1 })

  pub place-long : (place : ℕ) → LongText g l place → HasTextShape g l true
  place-long place h = record { parts = h.parts; shape = h.shape; digits = long-is h.parts (Some place) (first_gives (fields_of g h.parts) place h.first) }

  pub text-none : ((p : TextParts) → ¬ TextShape g l p) → text_scan g l ≡ Err (NoShape (signed.text_stop g l))
  text-none h = ⊎_elim (λ e. e) (λ s. absurd (h s.0 s.1)) (signed.text-found g l)

pub fit_sound : FitSound
fit_sound g l = fit-told g l (text_scan g l) refl

-- ---- places
pub stop_longest : StopLongest
stop_longest g l stop can e =
    let none = sym (text-none g l (fit-told g l (Err (NoShape stop)) e)) ∙ e in
    let same : signed.text_stop g l ≡ stop = cc in
    subst (LongestBeginning (OfGrammar g) l) same (longest-stop g can l)

-- a text without the shape is scanned up to the length of its longest beginning
pub text-stops : (g : Grammar) (l : List ℕ) (stop : ℕ) → Possible g → ((p : TextParts) → ¬ TextShape g l p) → LongestBeginning (OfGrammar g) l stop
    → text_scan g l ≡ Err (NoShape stop)
text-stops g l stop can none longest =
    text-none g l none ∙ ap (λ (n : ℕ). Err (NoShape n)) (one_longest (OfGrammar g) l (signed.text_stop g l) stop (longest-stop g can l) longest)

pub shape_ascii : ShapeAscii
shape_ascii = ascii.shape_ascii

pub fields_stand : FieldsStand
fields_stand = standing.fields_stand

-- what holds of whatever is read of a text's parts holds of what a text that fits reads as
module _ (g : Grammar) (l : List ℕ) (P : TextScan → Type 0) (some : (p : TextParts) → TextShape g l p → some_long g p ≡ false → P (parts_read p)) where
  any-by : (scan : TextScan) (p : TextParts) → TextShape g l p → (long : Option ℕ) → first_long (fields_of g p) ≡ long
      → unless_long long (parts_read p) ≡ Ok scan → P scan
  any-by scan p shape (Some place) e h = cc
  any-by scan p shape None e h = let same : parts_read p ≡ scan = cc in subst P same (some p shape (long-is g l p None e))

  pub text-any : (scan : TextScan) → text_scan g l ≡ Ok scan → P scan
  text-any scan e =
      ⊎_elim
      (λ n. let z = sym n ∙ e in let y : ◌≡◌ {A = ℕ} 0 1 = cc in absurd (omega arith))
      (λ s. any-by scan s.0 s.1 (first_long (fields_of g s.0)) refl (sym (text_reads g l s.0 s.1) ∙ e))
      (signed.text-found g l)

-- ---- bounds
pub text_bounded : TextBounded
text_bounded g l =
    text-any g l TextBounds
    (λ p t e. let s = t.shape in let values = map field_value p.fields in record {
      four = justified-length values;
      below = justified-below values (values-below g.dividers g.most s.front p.fields s.shape);
      tail = field_below p.tail s.digits;
    })

-- ---- under names of its own
pub named-ok : {A : Type 0} (name : TextScan → A) (r : Result TextScan Misfit) (y : A) → named name r ≡ Ok y
    → (x : TextScan) × (r ≡ Ok x) × (name x ≡ y)
named-ok name (Ok x) y e = (x, refl, cc)
named-ok name (Err m) y e = cc

pub named-err : {A : Type 0} (name : TextScan → A) (r : Result TextScan Misfit) (m : Misfit) → named name r ≡ Err m → r ≡ Err m
named-err name (Ok x) m e = cc
named-err name (Err n) m e = ap Err (the-misfit n m e)
  where
    the-misfit : {A : Type 0} (n m : Misfit) → ◌≡◌ {A = Result A Misfit} (Err n) (Err m) → n ≡ m
    the-misfit n m e = cc

-- ---- how many fields there are
shape-count : (d : Dividers) (k : ℕ) (l : List ℕ) (fields : List (List ℕ)) → FieldsShape d k l fields → length fields ≤ k
shape-count d k l fields (last i) = omega arith
shape-count d k l fields (more {k = j} {l = r} {fs = fs} i c e t) = omega (arith, shape-count d j r fs t)

pub fields-count : (g : Grammar) (l : List ℕ) (p : TextParts) → TextShape g l p → (g.least ≤ length p.fields) × (length p.fields ≤ g.most)
fields-count g l p t = let s = t.shape in (s.enough, shape-count g.dividers g.most s.front p.fields s.shape)
