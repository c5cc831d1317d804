-- How long each part of an answer is, and that the columns laid down one behind the other are the answer.
-- Assumes nothing.
use Rattle.std.specs.Prelude.{Ok, Err}
use Prim.Native.Nat.{ℕ, ◌+◌}
use mathlib.Core.Path.{◌≡◌, sym, ◌∙◌}
use mathlib.Core.List.{[], ◌∷◌, ◌++◌, append_assoc}
use mathlib.Core.Bool.{Bool, false}
use native.Mathlib.Omega.{arith}
use lib.ListN.{length, length-append}
use Rattle.answers.specs.declared.Refusal.{Refusal}
use Rattle.answers.specs.OrderLaws.{unless-clear}
use Rattle.timecodes.specs.declared.Timecode.{Timecode}
use Rattle.timecodes.specs.Admitted.{Valid, admits}
use Rattle.timecodes.specs.AdmittedLaws.{valid-admits}
use Rattle.timecodes.specs.InstantLaws.{instant_in-valid}
use Rattle.label_writer.specs.declared.TimecodeSections.{TimecodeSections}
use Rattle.label_writer.specs.Sections.{label_sections, sectioned}
use Rattle.label_writer.specs.LabelText.{frames_mark, sections_text, sections_length, label_text}
use Rattle.label_writer.proofs.Answers.{sections-same}
use Rattle.written.specs.Parts.{signed_text}
use Rattle.lines.specs.declared.Columns.{Columns}
use Rattle.lines.specs.Output.{bytes_of, timecode_text, refused_text, ended_text, label_column, columns_of, columns_text}

-- ---- lengths
pub ended_length : (minus : Bool) (m end : ℕ) → length (ended_text minus m end) ≡ length (signed_text minus m) + 1
ended_length minus m end = length-append (signed_text minus m) (end ∷ [])

pub labelled_length : (mark : ℕ) (s : TimecodeSections) → length (sections_text mark s ++ (32 ∷ [])) ≡ sections_length s + 1
labelled_length mark s = omega (arith, length-append (sections_text mark s) (32 ∷ []), sections-same mark s)

pub label_length : (c : Columns) → length (label_column c) ≡ sections_length c.sections + 1
label_length c = labelled_length (frames_mark c.rate) c.sections

pub columns_length : (c : Columns)
    → length (columns_text c)
    ≡ length (signed_text c.below c.count) + sections_length c.sections + length (signed_text c.minus c.ticks) + 3
columns_length c =
    omega (
      arith,
      length-append (ended_text c.below c.count 32) (label_column c ++ ended_text c.minus c.ticks 10),
      length-append (label_column c) (ended_text c.minus c.ticks 10),
      ended_length c.below c.count 32,
      label_length c,
      ended_length c.minus c.ticks 10,
    )

pub refused_length : (number : ℕ) → length (refused_text number) ≡ length (signed_text false number) + 9
unfolding refused_text
refused_length number = omega (arith, length-append (bytes_of "refused ") (ended_text false number 10), ended_length false number 10)

-- sections are no refusal
sections-apart : (s : TimecodeSections) (e : Refusal) → Ok s ≡ Err e → ⊥
sections-apart s e h = let clash : ◌≡◌ {A = ℕ} 0 1 = cc in omega arith

-- ---- a timecode that is admitted
module _ (tc : Timecode) (v : Valid tc) where
  -- its label has sections
  pub sections-there : sectioned tc ≡ Ok (label_sections tc.rate tc.count)
  unfolding sectioned
  sections-there = unless-clear Err (admits tc) (Ok (label_sections tc.rate tc.count)) (valid-admits tc v)

  -- so they are never refused
  pub sections-never : (e : Refusal) → sectioned tc ≡ Err e → ⊥
  sections-never e none = sections-apart (label_sections tc.rate tc.count) e (sym sections-there ∙ none)

  -- and the columns with them are its text
  pub columns-are : (s : TimecodeSections) → sectioned tc ≡ Ok s → columns_text (columns_of tc s) ≡ timecode_text tc
  unfolding timecode_text label_text
  columns-are s e =
      let there = sections-there in
      let same : s ≡ label_sections tc.rate tc.count = cc in
      rw (same, instant_in-valid tc v) (simp append_assoc)
