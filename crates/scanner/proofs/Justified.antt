-- Values moved in one after the other are right-justified; these are four, and each below 10^9.
-- Assumes nothing.
use Prim.Native.Nat.{ℕ, zero, suc, ◌+◌, ◌^◌, ◌<◌}
use mathlib.Core.Path.{◌≡◌, refl, sym, ap}
use mathlib.Core.List.{List, [], ◌∷◌, ◌++◌, map, append_assoc}
use native.Mathlib.Omega.{arith}
use lib.ListN.{length, drop, get_or, length-append, length-drop}
use lib.Seq.{get_or-drop}
use Rattle.digits.specs.Digits.{field_value}
use Rattle.digits.proofs.Runs.{field_below}
use Rattle.scanner.specs.declared.fields.Dividers.{Dividers}
use Rattle.scanner.specs.Shapes.{FieldsShape, last, more}
use Rattle.scanner.specs.Justified.{zeros, justified, shift, Below}

-- ---- moved in one after the other: of the places and then the values, the last ones
pub shift-first : (places : List ℕ) (v : ℕ) (values : List ℕ)
    → drop (suc (length values)) (places ++ v ∷ values) ≡ drop (length values) (shift places v ++ values)
shift-first [] v values = refl
shift-first (p ∷ places) v values = ap (drop (length values)) (sym (append_assoc places (v ∷ []) values))

-- four values moved one place left, element by element
pub shift-four : (l : List ℕ) (value : ℕ) → length l ≡ 4 → get_or l 1 0 ∷ get_or l 2 0 ∷ get_or l 3 0 ∷ value ∷ [] ≡ shift l value
shift-four [] value e = absurd (omega arith)
shift-four (h ∷ []) value e = absurd (omega arith)
shift-four (h ∷ m ∷ []) value e = absurd (omega arith)
shift-four (h ∷ m ∷ s ∷ []) value e = absurd (omega arith)
shift-four (h ∷ m ∷ s ∷ f ∷ []) value e = refl
shift-four (h ∷ m ∷ s ∷ f ∷ g ∷ l) value e = absurd (omega arith)

-- ---- four of them
pub justified-length : (values : List ℕ) → length (justified values) ≡ 4
justified-length values = omega (arith, length-drop (length values) (zeros 4 ++ values), length-append (zeros 4) values)

-- ---- each below 10^9
pub below-nil : Below []
below-nil i = omega arith

pub below-cons : (v : ℕ) (l : List ℕ) → v < 10 ^ 9 → Below l → Below (v ∷ l)
below-cons v l h b zero = h
below-cons v l h b (suc i) = b i

pub zeros-below : (places : ℕ) (l : List ℕ) → Below l → Below (zeros places ++ l)
zeros-below zero l b = b
zeros-below (suc n) l b = below-cons 0 (zeros n ++ l) (omega arith) (zeros-below n l b)

pub justified-below : (values : List ℕ) → Below values → Below (justified values)
justified-below values b i = rw (get_or-drop (length values) (zeros 4 ++ values) i 0) (zeros-below 4 values b (length values + i))

pub values-below : (d : Dividers) (k : ℕ) (l : List ℕ) (fields : List (List ℕ)) → FieldsShape d k l fields → Below (map field_value fields)
values-below d k l fields (last {f = f} i) = below-cons (field_value f) [] (field_below f i.digits) below-nil
values-below d k l fields (more {k = j} {f = f} {l = r} {fs = fs} i c e t) =
    below-cons (field_value f) (map field_value fs) (field_below f i.digits) (values-below d j r fs t)
