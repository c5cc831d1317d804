-- With an optional `-` in front, a text reads as its parts, and one that is not without the shape has parts.
-- Assumes nothing.
use Rattle.std.specs.Prelude.{Err}
use Prim.Native.Nat.{ℕ}
use mathlib.Core.Path.{◌≡◌, refl, sym, ap, ◌∙◌}
use mathlib.Core.Logic.{◌⊎◌, inl, inr, ⊎_elim}
use mathlib.Core.List.{List, [], ◌∷◌, ◌++◌, append_assoc}
use mathlib.Core.Bool.{Bool, true, false}
use native.Mathlib.Omega.{arith}
use borrow.Author.Tests.{eqb-true, ne_eqb}
use Rattle.digits.specs.Digits.{is_byte, is_digit, first_is, digit_first}
use Rattle.digits.proofs.Runs.{field-first}
use Rattle.scanner.specs.declared.fields.Dividers.{Dividers}
use Rattle.scanner.specs.declared.text.Misfit.TheVariants.{NoShape}
use Rattle.scanner.specs.declared.text.Grammar.{Grammar}
use Rattle.scanner.specs.Scan.{sign_by, sign_of}
use Rattle.scanner.specs.Text.{unless_long, body_scan, text_scan}
use Rattle.scanner.specs.Long.{first_long}
use Rattle.scanner.specs.Shapes.{FieldsShape, last, more, pointed, BodyShape, TextParts, text_parts, with_minus, TextShape, fields_of}
use Rattle.scanner.specs.Statements.{parts_read, TextReads}
use Rattle.scanner.proofs.Bodies.{body-complete, body_stop, body-sound}

-- ---- a digit stands in front of a body, and so no `-`
fields-begin : (d : Dividers) (k : ℕ) (l r : List ℕ) (fs : List (List ℕ)) → FieldsShape d k l fs → digit_first (l ++ r) ≡ true
fields-begin d k l r fs (last {f = f} i) = field-first f r i
fields-begin d k l r fs (more {f = f} {l = m} i c e t) = ap digit_first (append_assoc f (c ∷ m) r) ∙ field-first f (c ∷ (m ++ r)) i

pub body-begins : (g : Grammar) (l : List ℕ) (fields : List (List ℕ)) (tail : List ℕ) → BodyShape g l fields tail → digit_first l ≡ true
body-begins g l fields tail s = ap digit_first (sym s.all) ∙ fields-begin g.dividers g.most s.front (pointed tail) fields s.shape

pub no_minus : (l : List ℕ) → digit_first l ≡ true → first_is (is_byte 45) l ≡ false
no_minus [] e = refl
no_minus (c ∷ l) e =
    ne_eqb c 45
    (λ p. let z : true ≡ false = sym e ∙ ap is_digit p in let y : ◌≡◌ {A = ℕ} 0 1 = cc in omega arith)

-- ---- a text of the shape
reads-by : (g : Grammar) (m : Bool) (l : List ℕ) (fields : List (List ℕ)) (tail : List ℕ) → BodyShape g l fields tail
    → text_scan g (with_minus m l) ≡ unless_long (first_long (fields_of g (text_parts m fields tail))) (parts_read (text_parts m fields tail))
unfolding text_scan sign_of
reads-by g true l fields tail t = body-complete g (45 ∷ l) 1 true fields tail t
reads-by g false l fields tail t =
    ap (λ (b : Bool). body_scan g l (sign_by b 0).next.at (sign_by b 0).minus) (no_minus l (body-begins g l fields tail t))
    ∙ body-complete g l 0 false fields tail t

pub text_reads : TextReads
text_reads g l p t = ap (text_scan g) (sym t.text) ∙ reads-by g p.minus t.body p.fields p.tail t.shape

-- ---- and back
-- where the scan stopped
unfoldable pub text_stop : Grammar → List ℕ → ℕ
text_stop g l = body_stop g l (sign_of 0 l).next.at

found-by : (g : Grammar) (l : List ℕ) (t : Bool) → first_is (is_byte 45) l ≡ t
    → (body_scan g l (sign_by t 0).next.at (sign_by t 0).minus ≡ Err (NoShape (body_stop g l (sign_by t 0).next.at)))
    ⊎ ((p : TextParts) × TextShape g l p)
found-by g [] true q = let z : ◌≡◌ {A = ℕ} 0 1 = cc in absurd (omega arith)
found-by g (c ∷ l) true q =
    ⊎_elim inl
    (λ w. inr (text_parts true w.fields w.tail, record { body = l; shape = w.shape; text = ap (λ (x : ℕ). x ∷ l) (sym (eqb-true c 45 q)) }))
    (body-sound g (c ∷ l) 1 true)
found-by g l false q =
    ⊎_elim inl
    (λ w. inr (text_parts false w.fields w.tail, record { body = l; shape = w.shape; text = refl }))
    (body-sound g l 0 false)

pub text-found : (g : Grammar) (l : List ℕ) → (text_scan g l ≡ Err (NoShape (text_stop g l))) ⊎ ((p : TextParts) × TextShape g l p)
unfolding text_scan sign_of text_stop
text-found g l = found-by g l (first_is (is_byte 45) l) refl
