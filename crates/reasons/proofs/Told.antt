-- What the reader's two steps come to is its answer, and what is told with it.
-- Assumes nothing.
use Rattle.answers.specs.declared.Refusal.{Refusal}
use Rattle.std.specs.Prelude.{Option, Some, None, Result, Ok, Err}
use Prim.Native.Nat.{ℕ}
use mathlib.Core.Path.{◌≡◌, refl, sym, ap, ◌∙◌, subst}
use mathlib.Core.List.{List}
use Rattle.scanner.specs.declared.text.Misfit.{Misfit}
use Rattle.scanner.specs.declared.text.Misfit.TheVariants.{TooLong, NoShape}
use Rattle.scanner.specs.Text.{text_scan}
use Rattle.scanner.proofs.Statements.{text_bounded, named-ok}
use Rattle.timecodes.specs.declared.kinds.Kind.{Kind}
use Rattle.labels.specs.Label.{Short}
use Rattle.label_scan.specs.Shape.{label_grammar}
use Rattle.label_scan.specs.declared.LabelScan.{LabelScan}
use Rattle.label_scan.specs.Label.{label_from, label_scan}
use Rattle.footage_scan.specs.declared.FootageScan.{FootageScan}
use Rattle.footage_scan.specs.Footage.{footage_scan}
use Rattle.written.specs.Written.{Text, answer_to, line_to}
use Rattle.phrases.specs.Phrases.{phrase_of}
use Rattle.reading.specs.declared.Read.{Read}
use Rattle.reading.specs.declared.taking.Taken.{Taken}
use Rattle.reading.specs.Answer.{number_of}
use Rattle.reading.specs.Shaped.{label_or, footage_shaped, shape_of}
use Rattle.reading.specs.Taken.{taken_of, shaped_in}
use Rattle.reading.specs.For.{read_for, read_by}
use Rattle.reading.proofs.TakenLaws.{taken_back, read-by-taken}
use Rattle.reasons.specs.declared.Fact.{Fact}
use Rattle.reasons.specs.Facts.{ShortLabel, fact_by}
use Rattle.reasons.specs.Why.{fact_of, phrase_for, told_as, why_of}

-- ---- a label that was scanned has fields of at most 9 digits
pub short-scanned : (text : List ℕ) (scan : LabelScan) → label_scan text ≡ Ok scan → Short scan.fields
unfolding label_scan
short-scanned text scan e =
    let t = named-ok label_from (text_scan label_grammar text) scan e in
    let b = (text_bounded label_grammar text t.0 t.1).below in
    subst (λ (s : LabelScan). Short s.fields) t.2 (record { hours = b 0; minutes = b 1; seconds = b 2; frames = b 3 })

footage-short : (stopped : ℕ) (scanned : Result FootageScan Misfit) → ShortLabel (footage_shaped stopped scanned)
footage-short stopped (Ok scan) = tt
footage-short stopped (Err (TooLong place)) = tt
footage-short stopped (Err (NoShape stop)) = tt

pub shape-short : (stated : Option ℕ) (text : List ℕ) → ShortLabel (shape_of stated text)
shape-short None text = by (label_scan text) refl
  where
    by : (scanned : Result LabelScan Misfit) → label_scan text ≡ scanned
        → ShortLabel (label_or (λ stop. footage_shaped stop (footage_scan text)) scanned)
    by (Ok scan) e = short-scanned text scan e
    by (Err (TooLong place)) e = tt
    by (Err (NoShape stop)) e = footage-short stop (footage_scan text)
shape-short (Some n) text = footage-short 0 (footage_scan text)

pub taken-short : (stated : Option ℕ) (text : List ℕ) (t : Result Taken Refusal) → t ≡ taken_of (shape_of stated text) → ShortLabel (shaped_in t)
taken-short stated text t e =
    subst (λ (x : Result Taken Refusal). ShortLabel (shaped_in x)) (sym e) (subst ShortLabel (sym (taken_back stated text)) (shape-short stated text))

-- ---- by the reader's steps
module _ (kind : Kind) (text : List ℕ) (stated : Option ℕ) (rate : ℕ) (t : Result Taken Refusal) (r : Result Read Refusal) (n : ℕ)
    (te : t ≡ taken_of (shape_of stated text)) (re : r ≡ read_by kind stated rate (shaped_in t)) (ne : n ≡ number_of r) where
  -- what was read is the reader's answer
  pub read_is : r ≡ read_for kind text stated rate
  read_is = re ∙ ap (λ (x : Result Taken Refusal). read_by kind stated rate (shaped_in x)) te ∙ sym (read-by-taken kind text stated rate)

  pub number_is : n ≡ number_of (read_for kind text stated rate)
  number_is = ne ∙ ap number_of read_is

  fact_is : (f : Option Fact) → f ≡ fact_by n rate stated (shaped_in t) → f ≡ fact_of kind text stated rate
  unfolding fact_of
  fact_is f fe =
      fe
      ∙ ap (λ (x : Result Taken Refusal). fact_by n rate stated (shaped_in x)) te
      ∙ ap (fact_by n rate stated) (taken_back stated text)
      ∙ ap (λ (k : ℕ). fact_by k rate stated (shape_of stated text)) number_is

  -- so with its fact and what the phrase's writer answered, it is what is to be told
  pub told_is : (line : List ℕ) (place : ℕ) (f : Option Fact) (w : Result ℕ Refusal) → f ≡ fact_by n rate stated (shaped_in t)
      → w ≡ answer_to line place (Text (phrase_of n)) → told_as r f w ≡ why_of kind text stated rate line place
  unfolding why_of
  told_is line place f w fe we =
      ap (λ (x : Result Read Refusal). told_as x f w) read_is
      ∙ ap (λ (x : Option Fact). told_as (read_for kind text stated rate) x w) (fact_is f fe)
      ∙ ap (told_as (read_for kind text stated rate) (fact_of kind text stated rate))
      (we ∙ ap (λ (k : ℕ). answer_to line place (Text (phrase_of k))) number_is)

  -- and the line is as the phrase of its number leaves it
  pub line-is : (line : List ℕ) (place : ℕ) (last : List ℕ) → last ≡ line_to line place (Text (phrase_of n))
      → last ≡ line_to line place (Text (phrase_for kind text stated rate))
  line-is line place last le = le ∙ ap (λ (k : ℕ). line_to line place (Text (phrase_of k))) number_is
