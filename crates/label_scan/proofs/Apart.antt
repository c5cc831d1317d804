-- A field, and then a byte that is no digit and no divider: whatever comes after it, the text is no label.
-- Assumes nothing.
use Rattle.std.specs.Prelude.{Err}
use Prim.Native.Nat.{ℕ}
use mathlib.Core.Path.{◌≡◌, sym, ap, ◌∙◌}
use mathlib.Core.List.{List, [], ◌∷◌, ◌++◌}
use mathlib.Core.Bool.{Bool, false}
use native.Mathlib.Omega.{arith}
use lib.ListN.{length, drop}
use lib.Seq.{drop-append_seam}
use Rattle.digits.specs.Digits.{is_digit, IsField}
use Rattle.digits.proofs.Runs.{field-first}
use Rattle.scanner.specs.declared.fields.Dividers.TheVariants.{ColonOrSemicolon}
use Rattle.scanner.specs.declared.text.Misfit.TheVariants.{NoShape}
use Rattle.scanner.specs.Scan.{is_divider}
use Rattle.scanner.specs.Fields.{Front, fields_in}
use Rattle.scanner.specs.Shapes.{last, with_minus}
use Rattle.scanner.proofs.Fronts.{fields-complete}
use Rattle.scanner.proofs.Signed.{body-begins}
use Rattle.scanner.proofs.OneShape.{body-front, body-behind, sign-one}
use Rattle.label_scan.specs.Shape.{label_grammar, LabelShape}
use Rattle.label_scan.specs.Label.{label_scan}
use Rattle.label_scan.proofs.Statements.{label-none-fit}

module _ (d : List ℕ) (c : ℕ) (r : List ℕ) (is : IsField d) (digit : is_digit c ≡ false) (divider : is_divider c ≡ false) (m : Bool) where
  other-shape : (n : Bool) (fields : List (List ℕ)) → ¬ LabelShape (with_minus m (d ++ c ∷ r)) n fields
  other-shape n fields t =
      let body = (sign-one n m t.body (d ++ c ∷ r) (body-begins label_grammar t.body fields [] t.shape) (field-first d (c ∷ r) is) t.text).1 in
      let s = t.shape in
      let found =
      sym (body-front label_grammar t.body fields [] s)
      ∙ ap (fields_in ColonOrSemicolon 4) body
      ∙ fields-complete ColonOrSemicolon (c ∷ r) digit divider 4 d (d ∷ []) (last is) in
      let e : [] ≡ c ∷ r =
      sym (body-behind label_grammar t.body fields [] s)
      ∙ ap (drop (length s.front)) body
      ∙ ap (λ (f : Front). drop f.taken (d ++ c ∷ r)) found
      ∙ drop-append_seam d (c ∷ r) in
      let z : ◌≡◌ {A = ℕ} 0 1 = cc in
      omega arith

  pub no_label : (stop : ℕ) × (label_scan (with_minus m (d ++ c ∷ r)) ≡ Err (NoShape stop))
  no_label = label-none-fit (with_minus m (d ++ c ∷ r)) other-shape
