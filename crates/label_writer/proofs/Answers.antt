-- The fields of a label at a rate, its text by them, and how long the text is.
-- Assumes nothing.
use Prim.Native.Nat.{ℕ, ◌+◌, ◌^◌, ◌≤◌, ◌<◌}
use mathlib.Core.Path.{◌≡◌}
use mathlib.Core.Bool.{Bool, true}
use mathlib.Core.List.{List, ◌∷◌, ◌++◌, append_assoc}
use native.Mathlib.Omega.{arith}
use lib.IntN.{ℤ, nat_abs}
use lib.ListN.{length, length-append}
use Rattle.numbers.specs.Sign.{is_neg}
use Rattle.rates.specs.Rates.{is_rate, rate_row, drop_frames}
use Rattle.rates.proofs.Sound.{sound, drop-small}
use Rattle.timecodes.specs.declared.Timecode.{Timecode}
use Rattle.timecodes.specs.Admitted.{Valid}
use Rattle.timecodes.specs.AdmittedLaws.{valid-admits, valid-count-le}
use Rattle.answers.specs.OrderLaws.{unless-clear}
use Rattle.labels.specs.Label.{hours_in, minutes_in, seconds_in, frames_in, LabelOf}
use Rattle.labels.specs.AtRate.{sections_at, sections_at-in}
use Rattle.labels.specs.Statements.{Small}
use Rattle.labels.proofs.Statements.{has_label, small_fields}
use Rattle.digits.specs.Digits.{decimal}
use Rattle.written.specs.Parts.{sign_text, field_text}
use Rattle.written.specs.Clock.{clock_text}
use Rattle.written.specs.Written.{Text, NoText}
use Rattle.written.proofs.Parts.{field-most, clock-most}
use Rattle.label_writer.specs.declared.TimecodeSections.{TimecodeSections}
use Rattle.label_writer.specs.Sections.{label_fields, label_sections}
use Rattle.label_writer.specs.LabelText.{frames_mark, sections_text, sections_length, label_text, label_when, label_draft}

-- ---- the fields of a label at a rate
module _ (rate : ℕ) (count : ℤ) (h : is_rate rate ≡ true) where
  pub label_of : LabelOf (rate_row rate).timebase (drop_frames rate) (nat_abs count) (label_fields rate count)
  unfolding label_fields
  label_of = has_label (rate_row rate).timebase (drop_frames rate) (nat_abs count) (drop-small rate h)

  pub label_small : Small (nat_abs count) (label_fields rate count)
  label_small =
      small_fields (rate_row rate).timebase (drop_frames rate) (nat_abs count) (label_fields rate count) (sound rate h).timebase_most (drop-small rate h) label_of

-- the sections by name, from a sign, and fields that were answered for the magnitude
pub sections-made : (tc : Timecode) (n : ℕ) (minus : Bool) (fields : List ℕ) → Valid tc
    → n ≡ nat_abs tc.count → minus ≡ is_neg tc.count → fields ≡ sections_at tc.rate n
    → record { negative = minus; hours = hours_in fields; minutes = minutes_in fields; seconds = seconds_in fields; frames = frames_in fields }
    ≡ label_sections tc.rate tc.count
unfolding label_sections label_fields
sections-made tc n minus fields v e m f = rw (f, m, e, sections_at-in tc.rate (nat_abs tc.count) v.rate (valid-count-le tc v))

-- ---- the text
-- the label's text by its fields
pub label-parts : (rate : ℕ) (count : ℤ)
    → label_text rate count
    ≡ sign_text (is_neg count)
    ++ (decimal 2 (hours_in (label_fields rate count))
    ++ (58 ∷ decimal 2 (minutes_in (label_fields rate count))
    ++ (58 ∷ decimal 2 (seconds_in (label_fields rate count))
    ++ (frames_mark rate ∷ decimal 2 (frames_in (label_fields rate count))))))
unfolding label_text sections_text clock_text label_sections
label-parts rate count = simp append_assoc

-- its length, whichever the mark
pub sections-length : (mark : ℕ) (s : TimecodeSections)
    → length (sections_text mark s) ≡ length (clock_text s.negative s.hours s.minutes s.seconds) + length (field_text mark s.frames)
unfolding sections_text
sections-length mark s = length-append (clock_text s.negative s.hours s.minutes s.seconds) (field_text mark s.frames)

pub sections-same : (mark : ℕ) (s : TimecodeSections) → sections_length s ≡ length (sections_text mark s)
sections-same mark s = omega (arith, sections-length mark s, sections-length 58 s)

pub sections-most : (s : TimecodeSections) → s.hours < 2 ^ 64 → s.minutes < 2 ^ 64 → s.seconds < 2 ^ 64 → s.frames < 2 ^ 64 → sections_length s ≤ 84
sections-most s a b c d =
    omega (arith, sections-length 58 s, clock-most s.negative s.hours s.minutes s.seconds a b c, field-most s.frames d)

-- that of a timecode that is admitted is drafted
pub draft-text : (tc : Timecode) → Valid tc → label_draft tc ≡ Text (label_text tc.rate tc.count)
unfolding label_draft
draft-text tc v = unless-clear NoText (label_when tc) (Text (label_text tc.rate tc.count)) (valid-admits tc v)
