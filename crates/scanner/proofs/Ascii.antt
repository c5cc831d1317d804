-- A text of a grammar is ASCII: digits, dividers, `-` and `.`.
-- Assumes nothing.
use Prim.Native.Nat.{ℕ, ◌<◌}
use mathlib.Core.Path.{◌≡◌, refl, subst}
use mathlib.Core.List.{List, [], ◌∷◌, ◌++◌}
use mathlib.Core.Bool.{Bool, true, false, ◌||◌}
use native.Mathlib.Omega.{arith}
use lib.Dec.{eqb, leb}
use borrow.Author.Tests.{leb-true, eqb-true}
use Rattle.digits.specs.Digits.{is_digit, all_digits}
use Rattle.digits.proofs.Values.{both, all_head, all_tail}
use Rattle.scanner.specs.declared.fields.Dividers.{Dividers}
use Rattle.scanner.specs.declared.fields.Dividers.TheVariants.{Colon, ColonOrSemicolon, Plus}
use Rattle.scanner.specs.Scan.{divider_of}
use Rattle.scanner.specs.Shapes.{FieldsShape, last, more, pointed, with_minus, Ascii}
use Rattle.scanner.specs.Statements.{ShapeAscii}

ascii_append : (l m : List ℕ) → Ascii l → Ascii m → Ascii (l ++ m)
ascii_append [] m p q = q
ascii_append (b ∷ l) m p q = (p.0, ascii_append l m p.1 q)

-- ---- digits and dividers
digit-ascii : (b : ℕ) → is_digit b ≡ true → b < 128
digit-ascii b e = omega (arith, leb-true b 57 (both (leb 48 b) (leb b 57) e).1)

digits-ascii : (l : List ℕ) → all_digits l ≡ true → Ascii l
digits-ascii [] e = tt
digits-ascii (b ∷ l) e = (digit-ascii b (all_head b l e), digits-ascii l (all_tail b l e))

byte-ascii : (b c : ℕ) → c < 128 → eqb b c ≡ true → b < 128
byte-ascii b c h e = omega (arith, eqb-true b c e)

either-ascii : (c : ℕ) (t : Bool) → eqb c 58 ≡ t → (t || eqb c 59) ≡ true → c < 128
either-ascii c true e h = byte-ascii c 58 (omega arith) e
either-ascii c false e h = byte-ascii c 59 (omega arith) h

divider-ascii : (d : Dividers) (c : ℕ) → divider_of d c ≡ true → c < 128
divider-ascii Colon c e = byte-ascii c 58 (omega arith) e
divider-ascii ColonOrSemicolon c e = either-ascii c (eqb c 58) refl e
divider-ascii Plus c e = byte-ascii c 43 (omega arith) e

-- ---- fields, a tail, a sign
fields-ascii : (d : Dividers) (k : ℕ) (l : List ℕ) (fs : List (List ℕ)) → FieldsShape d k l fs → Ascii l
fields-ascii d k l fs (last {f = f} i) = digits-ascii f i.digits
fields-ascii d k l fs (more {k = j} {f = f} {l = m} {fs = gs} i c e t) =
    ascii_append f (c ∷ m) (digits-ascii f i.digits) (divider-ascii d c e, fields-ascii d j m gs t)

tail-ascii : (w : List ℕ) → all_digits w ≡ true → Ascii (pointed w)
tail-ascii [] e = tt
tail-ascii (b ∷ w) e = (omega arith, digits-ascii (b ∷ w) e)

sign-ascii : (minus : Bool) (l : List ℕ) → Ascii l → Ascii (with_minus minus l)
sign-ascii true l p = (omega arith, p)
sign-ascii false l p = p

pub shape_ascii : ShapeAscii
shape_ascii g l p t =
    let s = t.shape in
    let body = ascii_append s.front (pointed p.tail) (fields-ascii g.dividers g.most s.front p.fields s.shape) (tail-ascii p.tail s.digits) in
    subst Ascii t.text (sign-ascii p.minus t.body (subst Ascii s.all body))
