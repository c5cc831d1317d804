-- A text reads as its shape says, in one way only, and each fit is given exactly: the scan of a text by a label's grammar.
-- Assumes nothing.
use Rattle.std.specs.Prelude.{Ok, Err}
use Prim.Native.Nat.{ℕ, ◌^◌, ◌<◌}
use mathlib.Core.Path.{◌≡◌, refl, ap, ◌∙◌}
use mathlib.Core.List.{List, [], ◌∷◌, ◌++◌, append-nil}
use mathlib.Core.Bool.{Bool, true, false}
use native.Mathlib.Omega.{arith}
use lib.ListN.{length}
use Rattle.beginnings.specs.Beginning.{LongestBeginning}
use Rattle.digits.specs.Digits.{all_digits, decimal}
use Rattle.digits.proofs.Width.{decimal_back}
use Rattle.scanner.specs.declared.text.Misfit.TheVariants.{TooLong, NoShape}
use Rattle.scanner.specs.Long.{fields_long, ShortField}
use Rattle.scanner.specs.Text.{named, text_scan}
use Rattle.scanner.specs.Shapes.{last, more, TextParts, text_parts, with_minus, TextShape, some_long, HasTextShape, Possible}
use Rattle.scanner.proofs.Long.{not-long, written-short}
use Rattle.scanner.proofs.Statements.{one_text_shape, fit-told, named-ok, named-err, text-short, text-long, long-place, place-long, text-none, stop_longest, text-stops}
use Rattle.label_scan.specs.Shape.{label_grammar, LabelShape, HasLabelShape, IsLabel, LongLabel}
use Rattle.label_scan.specs.Label.{label_from, label_scan}
use Rattle.label_scan.specs.Statements.{LabelReads, LabelFits, LabelTooLong, LabelNoShape, OneLabelShape, LabelBack}

-- ---- a label's grammar allows no tail
no-tail : (tail : List ℕ) → (0 < length tail → 0 < label_grammar.tail) → [] ≡ tail
no-tail [] h = refl
no-tail (b ∷ tail) h = absurd (omega (arith, h (omega arith)))

as-label : (l : List ℕ) (p : TextParts) → TextShape label_grammar l p → LabelShape l p.minus p.fields
as-label l p t = let e = no-tail p.tail t.shape.allowed in rw e t

has_label : (l : List ℕ) (long : Bool) → HasTextShape label_grammar l long → HasLabelShape l long
has_label l long h =
    let p = h.parts in
    let e = no-tail p.tail h.shape.shape.allowed in
    record {
      minus = p.minus;
      fields = p.fields;
      shape = as-label l p h.shape;
      digits = ap (λ (x : List ℕ). some_long label_grammar (text_parts p.minus p.fields x)) e ∙ h.digits;
    }

-- ---- each fit
pub label_reads : LabelReads
unfolding label_scan
label_reads l m fields shape short = ap (named label_from) (text-short label_grammar l (text_parts m fields []) shape short)

pub label_fits : LabelFits
unfolding label_scan
label_fits l = (
  λ p. let t = named-ok label_from (text_scan label_grammar l) p.0 p.1 in has_label l false (fit-told label_grammar l (Ok t.0) t.1),
  λ h. (_, label_reads l h.minus h.fields h.shape h.digits),
)

pub label_too_long : LabelTooLong
unfolding label_scan
label_too_long l place = (
  λ e. fit-told label_grammar l (Err (TooLong place)) (named-err label_from (text_scan label_grammar l) (TooLong place) e),
  λ h. ap (named label_from) (text-long label_grammar l place h),
)

-- where something is too long, the first such field has a place, and back
pub label-long-place : (l : List ℕ) → HasLabelShape l true → (place : ℕ) × LongLabel l place
label-long-place l h = long-place label_grammar l (record { parts = text_parts h.minus h.fields []; shape = h.shape; digits = h.digits })

pub label-place-long : (l : List ℕ) (place : ℕ) → LongLabel l place → HasLabelShape l true
label-place-long l place h = has_label l true (place-long label_grammar l place h)

-- there are labels
possible : Possible label_grammar
possible = record { some = omega arith; enough = omega arith }

-- ---- what the fit alone tells
pub label-fit-long : (l : List ℕ) (place : ℕ) → label_scan l ≡ Err (TooLong place) → LongLabel l place
unfolding label_scan
label-fit-long l place e = fit-told label_grammar l (Err (TooLong place)) (named-err label_from (text_scan label_grammar l) (TooLong place) e)

pub label-fit-none : (l : List ℕ) (stop : ℕ) → label_scan l ≡ Err (NoShape stop) → (m : Bool) (fields : List (List ℕ)) → ¬ LabelShape l m fields
unfolding label_scan
label-fit-none l stop e m fields = fit-told label_grammar l (Err (NoShape stop)) (named-err label_from (text_scan label_grammar l) (NoShape stop) e) (text_parts m fields [])

pub label-fit-stop : (l : List ℕ) (stop : ℕ) → label_scan l ≡ Err (NoShape stop) → LongestBeginning IsLabel l stop
unfolding label_scan
label-fit-stop l stop e = stop_longest label_grammar l stop possible (named-err label_from (text_scan label_grammar l) (NoShape stop) e)

-- a text without the shape is scanned up to some place
pub label-none-fit : (l : List ℕ) → ((m : Bool) (fields : List (List ℕ)) → ¬ LabelShape l m fields) → (stop : ℕ) × (label_scan l ≡ Err (NoShape stop))
unfolding label_scan
label-none-fit l h = (_, ap (named label_from) (text-none label_grammar l (λ p shape. h p.minus p.fields (as-label l p shape))))

pub label_no_shape : LabelNoShape
unfolding label_scan
label_no_shape l stop = (
  λ e. (label-fit-none l stop e, label-fit-stop l stop e),
  λ h. ap (named label_from) (text-stops label_grammar l stop possible (λ p shape. h.0 p.minus p.fields (as-label l p shape)) h.1),
)

pub one_label_shape : OneLabelShape
one_label_shape l m n ds es s t =
    let e = one_text_shape label_grammar l (text_parts m ds []) (text_parts n es []) s t in
    (ap (λ (x : TextParts). x.minus) e, ap (λ (x : TextParts). x.fields) e)

-- ---- written and read
-- a number below 10^9 in two digits at least
two_digits : (n : ℕ) → n < 10 ^ 9 → ShortField (decimal 2 n)
two_digits n l = written-short 2 n (omega arith) l

pub label_back : LabelBack
unfolding fields_long all_digits
label_back sign h m s f a b c i j k l p q r =
    let hours = two_digits h i in
    let minutes = two_digits m j in
    let seconds = two_digits s k in
    let frames = two_digits f l in
    let front = decimal 2 h ++ (a ∷ decimal 2 m ++ (b ∷ decimal 2 s ++ (c ∷ decimal 2 f))) in
    let shape = more hours.is a p (more minutes.is b q (more seconds.is c r (last frames.is))) in
    label_reads (with_minus sign front) sign (decimal 2 h ∷ decimal 2 m ∷ decimal 2 s ∷ decimal 2 f ∷ [])
    (record {
      body = front;
      shape = record { front = front; shape = shape; enough = omega arith; digits = refl; allowed = λ z. omega arith; all = append-nil front };
      text = refl;
    })
    (rw (not-long (decimal 2 h) hours, not-long (decimal 2 m) minutes, not-long (decimal 2 s) seconds, not-long (decimal 2 f) frames))
    ∙ rw (decimal_back 2 h, decimal_back 2 m, decimal_back 2 s, decimal_back 2 f)
