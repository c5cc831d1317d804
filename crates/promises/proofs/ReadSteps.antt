-- Steps of reading and of laying a phrase down, one at a time.
-- Assumes nothing.
use Rattle.std.specs.Prelude.{Result, Ok, Err}
use Prim.Native.Nat.{ℕ}
use mathlib.Core.Path.{◌≡◌, refl, sym, ap, ◌∙◌}
use mathlib.Core.List.{List, [], ◌∷◌}
use native.Mathlib.Omega.{arith}
use lib.ListN.{length}
use Rattle.answers.specs.declared.Refusal.{Refusal}
use Rattle.labels.specs.Label.{hours_in, minutes_in, seconds_in, frames_in}
use Rattle.scanner.specs.declared.text.Misfit.{Misfit}
use Rattle.scanner.specs.declared.text.TextScan.{TextScan}
use Rattle.scanner.specs.Text.{named, text_scan}
use Rattle.scanner.proofs.Statements.{text_bounded}
use Rattle.label_scan.specs.declared.LabelScan.{LabelScan}
use Rattle.label_scan.specs.Shape.{label_grammar}
use Rattle.label_scan.specs.Label.{label_from, label_scan}
use Rattle.reading.specs.Shaped.{label_only}
use Rattle.reading.specs.Taken.{taken_of, shaped_in}
use Rattle.reading.proofs.TakenLaws.{shape_back}
use Rattle.written.specs.Written.{Text}
use Rattle.written.proofs.Laws.{Meets, meets-same}
use Rattle.phrases.specs.Phrases.{phrase_of}

-- a list of four is its elements
four-back : (l : List ℕ) → length l ≡ 4 → hours_in l ∷ minutes_in l ∷ seconds_in l ∷ frames_in l ∷ [] ≡ l
four-back [] e = absurd (omega arith)
four-back (a ∷ []) e = absurd (omega arith)
four-back (a ∷ b ∷ []) e = absurd (omega arith)
four-back (a ∷ b ∷ c ∷ []) e = absurd (omega arith)
four-back (a ∷ b ∷ c ∷ d ∷ []) e = refl
four-back (a ∷ b ∷ c ∷ d ∷ x ∷ l) e = absurd (omega arith)

-- whatever the text, four fields are scanned
pub four-scanned : (text : List ℕ) (scan : LabelScan) → label_scan text ≡ Ok scan → length scan.fields ≡ 4
unfolding label_scan
four-scanned text scan e = by (text_scan label_grammar text) refl e
  where
    fields-in : Result LabelScan Misfit → List ℕ
    fields-in (Ok s) = s.fields
    fields-in (Err m) = []

    by : (r : Result TextScan Misfit) → text_scan label_grammar text ≡ r → named label_from r ≡ Ok scan → length scan.fields ≡ 4
    by (Ok t) p q = sym (ap (λ (s : Result LabelScan Misfit). length (fields-in s)) q) ∙ (text_bounded label_grammar text t p).four
    by (Err m) p q = let z : ◌≡◌ {A = ℕ} 0 1 = cc in absurd (omega arith)

-- what a label alone was taken for gives its shape back
pub only-back : (text : List ℕ) → shaped_in (taken_of (label_only text)) ≡ label_only text
only-back text = shape_back (label_only text)

-- what lays the text of a number's phrase down lays the phrase down
pub meets-phrase : (line : List ℕ) (place number k : ℕ) (text : List ℕ) (answer : Result ℕ Refusal) (last : List ℕ)
    → phrase_of k ≡ text → number ≡ k → Meets line place (Text text) answer last → Meets line place (Text (phrase_of number)) answer last
meets-phrase line place number k text answer last e n m =
    meets-same line place (Text (phrase_of number)) (Text text) answer last (ap Text (sym (ap phrase_of n ∙ e))) m
