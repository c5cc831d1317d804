-- The fields of a text stand in it at their places.
-- Assumes nothing.
use Prim.Native.Nat.{ℕ, ◌+◌}
use mathlib.Core.Path.{◌≡◌, refl, sym, ap, ◌∙◌}
use mathlib.Core.List.{List, [], ◌∷◌, ◌++◌, append-nil, append_assoc}
use mathlib.Core.Bool.{Bool, true, false}
use lib.ListN.{length, take, drop}
use lib.Seq.{drop-drop, take-append_seam, drop-append_seam}
use Rattle.scanner.specs.declared.fields.Dividers.{Dividers}
use Rattle.scanner.specs.Long.{PlacedField, placed, placed_tail}
use Rattle.scanner.specs.Shapes.{FieldsShape, last, more, pointed, with_minus, Standing}
use Rattle.scanner.specs.Statements.{FieldsStand}

-- a byte behind what stands at a place
a-byte-on : (text : List ℕ) (at : ℕ) (f r : List ℕ) → drop at text ≡ f ++ r → drop (at + length f + 1) text ≡ drop 1 r
a-byte-on text at f r e =
    sym (drop-drop 1 (at + length f) text)
    ∙ ap (drop 1) (sym (drop-drop (length f) at text) ∙ ap (drop (length f)) e)
    ∙ ap (drop 1) (drop-append_seam f r)

module _ (text : List ℕ) (behind : ℕ → List PlacedField) (r : List ℕ)
    (stand : (place : ℕ) → drop place text ≡ drop 1 r → Standing text (behind place)) (d : Dividers) where
  fields-stand-by : (k : ℕ) (front : List ℕ) (fs : List (List ℕ)) → FieldsShape d k front fs
      → (at : ℕ) → drop at text ≡ front ++ r → Standing text (placed behind at fs)
  fields-stand-by k front fs (last {f = f} i) at e =
      (ap (take (length f)) e ∙ take-append_seam f r, stand (at + length f + 1) (a-byte-on text at f r e))
  fields-stand-by k front fs (more {k = j} {f = f} {l = m} {fs = gs} i c divides t) at e =
      let here = e ∙ append_assoc f (c ∷ m) r in
      (ap (take (length f)) here ∙ take-append_seam f (c ∷ (m ++ r)), fields-stand-by j m gs t (at + length f + 1) (a-byte-on text at f (c ∷ (m ++ r)) here))

tail-stands : (most : ℕ) (text tail : List ℕ) (place : ℕ) → drop place text ≡ drop 1 (pointed tail) → Standing text (placed_tail most tail place)
tail-stands most text [] place e = tt
tail-stands most text (b ∷ tail) place e =
    (ap (take (length (b ∷ tail))) (e ∙ sym (append-nil (b ∷ tail))) ∙ take-append_seam (b ∷ tail) [], tt)

behind-sign : (minus : Bool) (body : List ℕ) → drop (length (with_minus minus [])) (with_minus minus body) ≡ body
behind-sign true body = refl
behind-sign false body = refl

pub fields_stand : FieldsStand
fields_stand g l p t =
    let s = t.shape in
    fields-stand-by l (placed_tail g.tail p.tail) (pointed p.tail) (tail-stands g.tail l p.tail) g.dividers
    g.most s.front p.fields s.shape (length (with_minus p.minus []))
    (ap (drop (length (with_minus p.minus []))) (sym t.text) ∙ behind-sign p.minus t.body ∙ sym s.all)
