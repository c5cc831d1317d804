-- A text that has been scanned as a label is read as that.
-- Assumes nothing.
use Rattle.std.specs.Prelude.{None, Result, Ok}
use Prim.Native.Nat.{ℕ}
use mathlib.Core.Path.{◌≡◌, refl, ap, ◌∙◌}
use mathlib.Core.Bool.{Bool, true, false, cond}
use mathlib.Core.List.{List, [], ◌∷◌, ◌++◌}
use native.Mathlib.Omega.{arith}
use lib.ListN.{length}
use Rattle.rates.specs.Rates.{is_rate}
use Rattle.labels.specs.Label.{hours_in, minutes_in, seconds_in, frames_in}
use Rattle.label_scan.specs.declared.LabelScan.{LabelScan}
use Rattle.timecodes.specs.declared.kinds.Kind.{Kind}
use Rattle.scanner.specs.declared.text.Misfit.{Misfit}
use Rattle.scanner.specs.Scan.{is_divider}
use Rattle.scanner.specs.Shapes.{with_minus}
use Rattle.label_scan.specs.Label.{fitting_label, label_scan}
use Rattle.footage_scan.specs.Footage.{footage_scan}
use Rattle.reading.specs.Shaped.{footage_shaped, label_or}
use Rattle.reading.specs.Reading.{label_read, read_shaped, read_text}
use Rattle.reading.proofs.ByShape.{read-shaped, for-shaped}
use Rattle.reading.specs.For.{settled_read, is_label_of, shaped_for, read_for}
use Rattle.reading.specs.ForLaws.{label_of}
use Rattle.written.specs.Parts.{sign_text}

-- a sign written in front is a sign in front
pub sign-is : (minus : Bool) (l : List ℕ) → sign_text minus ++ l ≡ with_minus minus l
sign-is true l = refl
sign-is false l = refl

-- four fields are these four
pub four-fields : (fields : List ℕ) → length fields ≡ 4
    → fields ≡ hours_in fields ∷ minutes_in fields ∷ seconds_in fields ∷ frames_in fields ∷ []
four-fields [] e = absurd (omega arith)
four-fields (h ∷ []) e = absurd (omega arith)
four-fields (h ∷ m ∷ []) e = absurd (omega arith)
four-fields (h ∷ m ∷ s ∷ []) e = absurd (omega arith)
four-fields (h ∷ m ∷ s ∷ f ∷ []) e = refl
four-fields (h ∷ m ∷ s ∷ f ∷ g ∷ l) e = absurd (omega arith)

module _ (rate : ℕ) (text : List ℕ) (r : is_rate rate ≡ true) where
  -- a label, no film format stated
  pub read-label : (minus : Bool) (fields : List ℕ) → label_scan text ≡ Ok (fitting_label minus fields)
      → read_text text None rate ≡ label_read rate minus fields
  read-label minus fields e =
      read-shaped text None rate r refl
      ∙ ap (λ (s : Result LabelScan Misfit). read_shaped rate None (label_or (λ stop. footage_shaped stop (footage_scan text)) s)) e

  -- and as one of a kind that it may be a label of
  pub read-label-for : (kind : Kind) (minus : Bool) (fields : List ℕ) → label_scan text ≡ Ok (fitting_label minus fields) → is_label_of kind rate minus fields ≡ true
      → read_for kind text None rate ≡ settled_read kind (label_read rate minus fields)
  read-label-for kind minus fields e may =
      for-shaped kind text None rate r refl
      ∙ ap (λ (s : Result LabelScan Misfit). shaped_for kind rate None (label_or (λ stop. footage_shaped stop (footage_scan text)) s)) e
      ∙ label_of kind rate None minus fields may

-- what stands before frames divides
pub mark-divides : (drop : Bool) → is_divider (cond drop 59 58) ≡ true
mark-divides true = refl
mark-divides false = refl
