-- A text has a grammar's shape in one way only: its sign, the fields in front of it, and what stands behind them.
-- Assumes nothing.
use Prim.Native.Nat.{ℕ}
use mathlib.Core.Path.{◌≡◌, refl, sym, ap, ap₂, ◌∙◌}
use mathlib.Core.List.{List, [], ◌∷◌}
use mathlib.Core.Bool.{Bool, true, false}
use native.Mathlib.Omega.{arith}
use lib.ListN.{length, drop}
use lib.Seq.{drop-append_seam}
use Rattle.digits.specs.Digits.{digit_first}
use Rattle.scanner.specs.declared.text.Grammar.{Grammar}
use Rattle.scanner.specs.Fields.{Front, fields_in}
use Rattle.scanner.specs.Shapes.{pointed, BodyShape, text_parts, with_minus}
use Rattle.scanner.specs.Statements.{OneTextShape}
use Rattle.scanner.proofs.Fronts.{front_of, fields-complete}
use Rattle.scanner.proofs.Bodies.{tail-stops, tail-ends}
use Rattle.scanner.proofs.Signed.{body-begins}

-- ---- behind the fields stands the tail
point-one : (w v : List ℕ) → pointed w ≡ pointed v → w ≡ v
point-one [] [] e = refl
point-one [] (b ∷ v) e = cc
point-one (a ∷ w) [] e = cc
point-one (a ∷ w) (b ∷ v) e = cc

pub body-front : (g : Grammar) (l : List ℕ) (fields : List (List ℕ)) (tail : List ℕ) (s : BodyShape g l fields tail)
    → fields_in g.dividers g.most l ≡ front_of fields (length s.front)
body-front g l fields tail s =
    ap (fields_in g.dividers g.most) (sym s.all)
    ∙ fields-complete g.dividers (pointed tail) (tail-stops tail) (tail-ends g.dividers tail) g.most s.front fields s.shape

pub body-behind : (g : Grammar) (l : List ℕ) (fields : List (List ℕ)) (tail : List ℕ) (s : BodyShape g l fields tail)
    → drop (length s.front) l ≡ pointed tail
body-behind g l fields tail s = ap (drop (length s.front)) (sym s.all) ∙ drop-append_seam s.front (pointed tail)

body-one : (g : Grammar) (l : List ℕ) (fs es : List (List ℕ)) (w v : List ℕ) → BodyShape g l fs w → BodyShape g l es v → (fs ≡ es) × (w ≡ v)
body-one g l fs es w v s t =
    let e = sym (body-front g l fs w s) ∙ body-front g l es v t in (
      ap (λ (f : Front). f.fields) e,
      point-one w v (sym (body-behind g l fs w s) ∙ ap (λ (f : Front). drop f.taken l) e ∙ body-behind g l es v t),
    )

-- ---- the sign
pub sign-one : (m n : Bool) (l k : List ℕ) → digit_first l ≡ true → digit_first k ≡ true → with_minus m l ≡ with_minus n k → (m ≡ n) × (l ≡ k)
sign-one true true l k h i e = (refl, cc)
sign-one false false l k h i e = (refl, e)
sign-one true false l k h i e = let z : false ≡ true = ap digit_first e ∙ i in let y : ◌≡◌ {A = ℕ} 0 1 = cc in absurd (omega arith)
sign-one false true l k h i e = let z : true ≡ false = sym h ∙ ap digit_first e in let y : ◌≡◌ {A = ℕ} 0 1 = cc in absurd (omega arith)

pub one_text_shape : OneTextShape
one_text_shape g l p q s t =
    let o = sign-one p.minus q.minus s.body t.body
    (body-begins g s.body p.fields p.tail s.shape) (body-begins g t.body q.fields q.tail t.shape) (s.text ∙ sym t.text) in
    let b = body-one g t.body p.fields q.fields p.tail q.tail (rw o.1 at s.shape) t.shape in
    ap₂ (λ (m : Bool) (fs : List (List ℕ)). text_parts m fs p.tail) o.0 b.0 ∙ ap (text_parts q.minus q.fields) b.1
