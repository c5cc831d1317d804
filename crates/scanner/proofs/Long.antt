-- Fields of at most 9 digits are read as their values, and a number below 10^9 is written as such a field; the first field that is too long.
-- Assumes nothing.
use Rattle.std.specs.Prelude.{Option, Some, None}
use Prim.Native.Nat.{ℕ, ◌+◌, ◌^◌, ◌≤◌, ◌<◌}
use mathlib.Core.Path.{◌≡◌, refl, sym, ap, ap₂, ◌∙◌}
use mathlib.Core.List.{List, [], ◌∷◌, ◌++◌, map}
use mathlib.Core.Bool.{Bool, true, false, ◌||◌, cond}
use native.Mathlib.Omega.{arith}
use lib.ListN.{length, length-append}
use borrow.Author.Tests.{le-ltb, lt-ltb, ltb-true, ltb-false}
use Rattle.digits.specs.Digits.{value_of, field_value, decimal}
use Rattle.digits.proofs.Runs.{field-value}
use Rattle.digits.proofs.Width.{width-at-most, decimal_length, decimal-field}
use Rattle.scanner.specs.declared.fields.Dividers.{Dividers}
use Rattle.scanner.specs.declared.text.Grammar.{Grammar}
use Rattle.scanner.specs.Long.{is_over, is_long, fields_long, ShortField, PlacedField, placed, placed_tail, first_long, or_long}
use Rattle.scanner.specs.Shapes.{FieldsShape, last, more, TextParts, some_long, fields_of, AllShort, FirstLong}

-- neither of two holds, if not one of them does
pub neither : (p q : Bool) → (p || q) ≡ false → (p ≡ false) × (q ≡ false)
neither true q e = (e, cc)
neither false q e = (refl, e)

-- a field of at most 9 digits is not too long, and is read as its value
pub not-long : (d : List ℕ) → ShortField d → is_long (length d) ≡ false
not-long d f = le-ltb 9 (length d) f.short

pub value-short : (d : List ℕ) → is_long (length d) ≡ false → field_value d ≡ value_of d
value-short d e = field-value d (ltb-false 9 (length d) e)

-- and so are several
pub values-short : (fields : List (List ℕ)) → fields_long fields ≡ false → map field_value fields ≡ map value_of fields
unfolding fields_long
values-short [] e = refl
values-short (d ∷ ds) e =
    let s = neither (is_long (length d)) (fields_long ds) e in
    ap₂ (λ (x : ℕ) (y : List ℕ). x ∷ y) (value-short d s.0) (values-short ds s.1)

-- a number below 10^9 in k digits at least
pub written-short : (k n : ℕ) → k ≤ 9 → n < 10 ^ 9 → ShortField (decimal k n)
written-short k n h l = record { is = decimal-field k n; short = omega (arith, decimal_length k n, width-at-most n 9 (omega arith) l) }

-- ---- the first field that is too long
pub or-nowhere : (x : Option ℕ) → or_long x None ≡ x
or-nowhere None = refl
or-nowhere (Some place) = refl

-- one that comes behind another
pub or-next : (x : Option ℕ) (t : Bool) (place : ℕ) (y : Option ℕ)
    → or_long x (cond t (Some place) y) ≡ or_long (or_long x (cond t (Some place) None)) y
or-next None true place y = refl
or-next None false place y = refl
or-next (Some p) t place y = refl

-- of fields, and of what stands behind them
pub long-join : (d : Dividers) (k : ℕ) (front : List ℕ) (fs : List (List ℕ)) → FieldsShape d k front fs → (at : ℕ) (behind : ℕ → List PlacedField)
    → first_long (placed behind at fs) ≡ or_long (first_long (placed (λ place. []) at fs)) (first_long (behind (at + length front + 1)))
long-join d k front fs (last {f = f} i) at behind = or-next None (is_over 9 (length f)) at (first_long (behind (at + length f + 1)))
long-join d k front fs (more {k = j} {f = f} {l = m} {fs = gs} i c e t) at behind =
    let next = at + length f + 1 in
    let there : next + length m + 1 ≡ at + length front + 1 = omega (arith, length-append f (c ∷ m)) in
    ap (λ (x : Option ℕ). cond (is_over 9 (length f)) (Some at) x)
    (long-join d j m gs t next behind ∙ ap (λ (n : ℕ). or_long (first_long (placed (λ place. []) next gs)) (first_long (behind n))) there)
    ∙ by (is_over 9 (length f)) (first_long (placed (λ place. []) next gs)) (first_long (behind (at + length front + 1)))
  where
    by : (b : Bool) (x y : Option ℕ) → cond b (Some at) (or_long x y) ≡ or_long (cond b (Some at) x) y
    by true x y = refl
    by false x y = refl

-- a field is too long somewhere, exactly where some is
abbrev pub is_some : Option ℕ → Bool
is_some None = false
is_some (Some place) = true

some-placed : (behind : ℕ → List PlacedField) (b : Bool) → ((place : ℕ) → is_some (first_long (behind place)) ≡ b)
    → (place : ℕ) (fs : List (List ℕ)) → is_some (first_long (placed behind place fs)) ≡ (fields_long fs || b)
unfolding fields_long
some-placed behind b h place [] = h place
some-placed behind b h place (d ∷ ds) =
    by (is_long (length d)) (first_long (placed behind (place + length d + 1) ds)) (fields_long ds) (some-placed behind b h (place + length d + 1) ds)
  where
    by : (t : Bool) (x : Option ℕ) (y : Bool) → is_some x ≡ (y || b) → is_some (cond t (Some place) x) ≡ ((t || y) || b)
    by true x y e = refl
    by false x y e = e

some-tail : (most : ℕ) (tail : List ℕ) (place : ℕ) → is_some (first_long (placed_tail most tail place)) ≡ is_over most (length tail)
some-tail most [] place = sym (le-ltb most 0 (omega arith))
some-tail most (b ∷ tail) place = by (is_over most (length (b ∷ tail)))
  where
    by : (t : Bool) → is_some (cond t (Some place) None) ≡ t
    by true = refl
    by false = refl

or_swap : (x y : Bool) → (x || y) ≡ (y || x)
or_swap true true = refl
or_swap true false = refl
or_swap false true = refl
or_swap false false = refl

pub some-long : (g : Grammar) (p : TextParts) → is_some (first_long (fields_of g p)) ≡ some_long g p
some-long g p =
    some-placed (placed_tail g.tail p.tail) (is_over g.tail (length p.tail)) (some-tail g.tail p.tail) _ p.fields
    ∙ or_swap (fields_long p.fields) (is_over g.tail (length p.tail))

-- which it is
pub some-nowhere : (x : Option ℕ) → is_some x ≡ false → x ≡ None
some-nowhere None e = refl
some-nowhere (Some place) e = let z : ◌≡◌ {A = ℕ} 0 1 = cc in absurd (omega arith)

pub some-place : (x : Option ℕ) → is_some x ≡ true → (place : ℕ) × (x ≡ Some place)
some-place None e = let z : ◌≡◌ {A = ℕ} 0 1 = cc in absurd (omega arith)
some-place (Some place) e = (place, refl)

-- which is the first
pub first-told : (fs : List PlacedField) (place : ℕ) → first_long fs ≡ Some place → FirstLong fs place
first-told [] place e = let z : ◌≡◌ {A = ℕ} 0 1 = cc in absurd (omega arith)
first-told (f ∷ fs) place e = by (is_over f.most (length f.digits)) refl (first-told fs place) e
  where
    by : (t : Bool) → is_over f.most (length f.digits) ≡ t → (first_long fs ≡ Some place → FirstLong fs place)
        → cond t (Some f.place) (first_long fs) ≡ Some place → FirstLong (f ∷ fs) place
    by true over later h = record {
      left = [];
      field = f;
      right = fs;
      all = refl;
      short = tt;
      long = ltb-true f.most (length f.digits) over;
      there = cc;
    }
    by false over later h =
        let q = later h in
        record {
          left = f ∷ q.left;
          field = q.field;
          right = q.right;
          all = ap (λ (x : List PlacedField). f ∷ x) q.all;
          short = (ltb-false f.most (length f.digits) over, q.short);
          long = q.long;
          there = q.there;
        }

first_by : (left : List PlacedField) (field : PlacedField) (right : List PlacedField) → AllShort left → field.most < length field.digits
    → first_long (left ++ field ∷ right) ≡ Some field.place
first_by [] field right short long = rw (lt-ltb field.most (length field.digits) long)
first_by (f ∷ left) field right short long =
    rw (le-ltb f.most (length f.digits) short.0) (first_by left field right short.1 long)

pub first_gives : (fs : List PlacedField) (place : ℕ) → FirstLong fs place → first_long fs ≡ Some place
first_gives fs place q = ap first_long (sym q.all) ∙ first_by q.left q.field q.right q.short q.long ∙ ap Some q.there
