-- A line made of its parts is read by them, one that is none is refused 1, and no answer has more than 47 bytes: count, label and ticks have bounds.
-- Assumes nothing.
use Rattle.answers.specs.Causes.{refusal_number}
use Rattle.std.specs.Prelude.{Result, Ok, Err}
use Prim.Native.Nat.{ℕ, ◌+◌, ◌^◌, ◌≤◌, ◌<◌}
use mathlib.Core.Path.{◌≡◌, refl, ap}
use mathlib.Core.Bool.{Bool, false}
use native.Mathlib.Omega.{arith}
use lib.IntN.{nat_abs}
use lib.ListN.{length}
use Rattle.numbers.specs.Sign.{is_neg}
use Rattle.digits.specs.Digits.{digits_of, width_by, width, decimal}
use Rattle.digits.proofs.Width.{width-at-most}
use Rattle.answers.specs.declared.Refusal.{Refusal}
use Rattle.timecodes.specs.declared.Timecode.{Timecode}
use Rattle.timecodes.specs.Admitted.{Valid}
use Rattle.timecodes.specs.AdmittedLaws.{valid-count-le, valid-count}
use Rattle.timecodes.specs.Instant.{instant}
use Rattle.timecodes.specs.InstantLaws.{instant-abs-le, instant_in-valid}
use Rattle.written.specs.Parts.{signed_text}
use Rattle.written.proofs.Parts.{sign-most, padded-length}
use Rattle.label_writer.specs.Sections.{label_sections}
use Rattle.label_writer.specs.LabelText.{frames_mark, label_text}
use Rattle.label_writer.proofs.Answers.{sections-same}
use Rattle.label_writer.proofs.Statements.{label_bounds}
use Rattle.lines.specs.Input.{line_of}
use Rattle.lines.specs.Output.{timecode_text, refused_text, held_text, answer_text, columns_of, columns_held, answer_with, answer_of, text_of}
use Rattle.lines.specs.Statements.{ReadAtRate, NotBegun, ShortAnswer, LaidAsText}
use Rattle.lines.proofs.Begun.{not_line, made-read}
use Rattle.lines.proofs.Texts.{columns_length, refused_length, sections-there, columns-are}
use Rattle.lines.proofs.Held.{Sound, line-sound}

pub read_at_rate : ReadAtRate
read_at_rate = made-read

pub not_begun : NotBegun
unfolding answer_text refused_text decimal digits_of width width_by
not_begun line e = ap held_text (not_line line e)

-- a sign, and no more digits than are enough
signed-most : (minus : Bool) (m k : ℕ) → 0 < k → m < 10 ^ k → length (signed_text minus m) ≤ k + 1
signed-most minus m k p h = omega (arith, padded-length minus 1 m, sign-most minus, width-at-most m k p h)

-- 10 bytes of count, 14 of label, 20 of ticks, two spaces and a newline
timecode-short : (tc : Timecode) → Valid tc → length (timecode_text tc) ≤ 47
unfolding label_text
timecode-short tc v =
    let s = label_sections tc.rate tc.count in
    omega (
      arith,
      ap length (columns-are tc v s (sections-there tc v)),
      columns_length (columns_of tc s),
      signed-most (is_neg tc.count) (nat_abs tc.count) 9 (omega arith) (omega (arith, valid-count-le tc v)),
      sections-same (frames_mark tc.rate) s,
      label_bounds tc.rate tc.count v.rate (valid-count tc v),
      ap (λ z. length (signed_text (is_neg z) (nat_abs z))) (instant_in-valid tc v),
      signed-most (is_neg (instant tc)) (nat_abs (instant tc)) 19 (omega arith) (omega (arith, instant-abs-le tc v)),
    )

refused-short : (e : Refusal) → refusal_number e < 100 → length (refused_text (refusal_number e)) ≤ 47
refused-short e h = omega (arith, refused_length (refusal_number e), padded-length false 1 (refusal_number e), width-at-most (refusal_number e) 2 (omega arith) (omega arith))

held-short : (held : Result Timecode Refusal) → Sound held → length (held_text held) ≤ 47
held-short (Ok tc) v = timecode-short tc v
held-short (Err e) h = refused-short e h

pub short_answer : ShortAnswer
unfolding answer_text
short_answer line = held-short (line_of line) (line-sound line)

-- what a line holds, as a value and as a text
as-text : (held : Result Timecode Refusal) → Sound held → text_of (answer_with (columns_held held)) ≡ held_text held
as-text (Ok tc) v = columns-are tc v (label_sections tc.rate tc.count) (sections-there tc v)
as-text (Err e) h = refl

pub laid_as_text : LaidAsText
unfolding answer_of answer_text
laid_as_text line = as-text (line_of line) (line-sound line)
