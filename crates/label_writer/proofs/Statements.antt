-- A label's shape, length and bytes follow from those of its parts; its hours have four digits at most, since a minute has 1,436 counts or more.
-- Assumes nothing.
use Prim.Native.Nat.{ℕ, ◌+◌, ◌*◌, ◌-◌, ◌≤◌, ◌<◌}
use mathlib.Core.Path.{◌≡◌, refl, ap, ◌∙◌}
use mathlib.Core.List.{List, [], ◌∷◌, ◌++◌, append-nil, append_assoc}
use mathlib.Core.Bool.{Bool, true, false, cond}
use native.Mathlib.Omega.{arith}
use native.Mathlib.Nat.{mul-le-mul_right}
use lib.IntN.{ℤ, nat_abs}
use lib.ListN.{length}
use borrow.Author.Tests.{leb-true, ne_eqb}
use Rattle.laws.specs.Every.{every, every_append}
use Rattle.numbers.specs.Sign.{is_neg}
use Rattle.answers.specs.Refusals.{most_count, is_count}
use Rattle.rates.specs.Rates.{is_rate, rate_row, is_drop, drop_frames}
use Rattle.rates.proofs.Sound.{sound}
use Rattle.rates.specs.Laws.{drop_le}
use Rattle.timecodes.specs.AdmittedLaws.{valid-count}
use Rattle.labels.specs.Label.{hours_in, minutes_in, seconds_in, frames_in}
use Rattle.labels.proofs.ByMinutes.{count-by-minutes}
use Rattle.digits.specs.Digits.{all_digits, width, decimal}
use Rattle.digits.proofs.Values.{all_head, all_tail}
use Rattle.digits.proofs.Width.{width-at-most, decimal_length, decimal-field, decimal_back}
use Rattle.digits.proofs.Statements.{decimal_padded}
use Rattle.written.specs.Written.{answer_to, line_to}
use Rattle.written.specs.Parts.{sign_text}
use Rattle.written.proofs.Laws.{text-written}
use Rattle.written.proofs.Parts.{sign-most, padded-length, clock-length}
use Rattle.label_writer.specs.Sections.{label_fields, label_sections}
use Rattle.label_writer.specs.LabelText.{frames_mark, sections_text, label_text}
use Rattle.written.specs.Clock.{clock_text}
use Rattle.label_writer.specs.Statements.{MarkAt, LabelIs, LabelLength, LabelBounds, is_label_byte, LabelBytes, LabelWritten, SectionsIs}
use Rattle.label_writer.proofs.Answers.{label_of, label_small, label-parts, sections-length, draft-text}

-- ---- shape
pub mark_at : MarkAt
unfolding is_drop
mark_at = record { at_5 = refl; at_11 = refl; elsewhere = λ rate p q. rw (ne_eqb rate 5 p, ne_eqb rate 11 q) }

pub label_is : LabelIs
label_is rate count h =
    let F = label_fields rate count in
    let l = label_of rate count h in
    record {
      hours = decimal 2 (hours_in F);
      minutes = decimal 2 (minutes_in F);
      seconds = decimal 2 (seconds_in F);
      frames = decimal 2 (frames_in F);
      text = label-parts rate count;
      hours_padded = decimal_padded 2 (hours_in F);
      minutes_padded = decimal_padded 2 (minutes_in F);
      seconds_padded = decimal_padded 2 (seconds_in F);
      frames_padded = decimal_padded 2 (frames_in F);
      label =
          rw (decimal_back 2 (hours_in F), decimal_back 2 (minutes_in F), decimal_back 2 (seconds_in F), decimal_back 2 (frames_in F))
          (record {
            strict = record { four = refl; minutes = l.strict.minutes; seconds = l.strict.seconds; frames = l.strict.frames };
            allowed = l.allowed;
            count = l.count;
          });
    }

-- ---- length
-- a field of two digits
two : (n : ℕ) → n < 100 → length (decimal 2 n) ≡ 2
two n h = omega (arith, decimal_length 2 n, width-at-most n 2 (omega arith) (omega arith))

pub label_length : LabelLength
unfolding label_text label_sections
label_length rate count h =
    let s = label_sections rate count in
    let small = label_small rate count h in
    omega (
      arith,
      sections-length (frames_mark rate) s,
      clock-length s.negative s.hours s.minutes s.seconds,
      padded-length s.negative 2 s.hours,
      two s.minutes small.minutes,
      two s.seconds small.seconds,
      two s.frames small.frames,
    )

-- hours have four digits at most
pub hours-few : (rate : ℕ) (count : ℤ) → is_rate rate ≡ true → is_count count ≡ true → hours_in (label_fields rate count) < 10000
hours-few rate count h k =
    let fields = label_fields rate count in
    let timebase = (rate_row rate).timebase in
    let D = drop_frames rate in
    let few : nat_abs count ≤ most_count = leb-true (nat_abs count) most_count k in
    let rows : 24 ≤ timebase = (sound rate h).timebase_least in
    let minute : 1436 ≤ 60 * timebase - D = omega (arith, drop_le rate) in
    omega (
      arith,
      (label_of rate count h).count,
      count-by-minutes timebase D (omega (arith, drop_le rate)) (hours_in fields) (minutes_in fields) (seconds_in fields) (frames_in fields),
      mul-le-mul_right (60 * hours_in fields + minutes_in fields) minute,
    )

pub label_bounds : LabelBounds
unfolding label_sections
label_bounds rate count h k =
    let hours = hours_in (label_fields rate count) in
    let wide : width hours ≤ 4 = width-at-most hours 4 (omega arith) (omega (arith, hours-few rate count h k)) in
    let long = label_length rate count h in
    (omega (arith, sign-most (is_neg count)), omega (arith, sign-most (is_neg count)))

-- ---- bytes
-- a field, and more behind it
field-bytes : (n : ℕ) (rest : List ℕ) → every is_label_byte rest ≡ true → every is_label_byte (decimal 2 n ++ rest) ≡ true
field-bytes n rest h = every_append is_label_byte (decimal 2 n) rest (digits-only (decimal 2 n) (decimal-field 2 n).digits) ∙ h
  where
    digits-only : (d : List ℕ) → all_digits d ≡ true → every is_label_byte d ≡ true
    digits-only [] a = refl
    digits-only (b ∷ d) a = rw (all_head b d a) (digits-only d (all_tail b d a))

sign-bytes : (minus : Bool) → every is_label_byte (sign_text minus) ≡ true
sign-bytes true = refl
sign-bytes false = refl

last-bytes : (drop : Bool) (n : ℕ) → every is_label_byte (cond drop 59 58 ∷ decimal 2 n) ≡ true
last-bytes drop n = rw (← append-nil (decimal 2 n)) (by drop)
  where
    by : (t : Bool) → every is_label_byte (cond t 59 58 ∷ decimal 2 n ++ []) ≡ true
    by true = field-bytes n [] refl
    by false = field-bytes n [] refl

pub label_bytes : LabelBytes
label_bytes rate count =
    let F = label_fields rate count in
    ap (every is_label_byte) (label-parts rate count)
    ∙ every_append is_label_byte (sign_text (is_neg count)) _ (sign-bytes (is_neg count))
    ∙ field-bytes (hours_in F) _ (field-bytes (minutes_in F) _ (field-bytes (seconds_in F) _ (last-bytes (is_drop rate) (frames_in F))))

-- ---- written
pub label_written : LabelWritten
label_written tc line place v room =
    let text = label_text tc.rate tc.count in
    let w = text-written line place text (omega (arith, label_bounds tc.rate tc.count v.rate (valid-count tc v))) in
    let d = draft-text tc v in
    (ap (answer_to line place) d ∙ w.0, ap (line_to line place) d ∙ w.1)

pub sections_is : SectionsIs
unfolding sections_text clock_text
sections_is mark s = record {
  hours = decimal 2 s.hours;
  minutes = decimal 2 s.minutes;
  seconds = decimal 2 s.seconds;
  frames = decimal 2 s.frames;
  text = simp append_assoc;
  padded = (decimal_padded 2 s.hours, decimal_padded 2 s.minutes, decimal_padded 2 s.seconds, decimal_padded 2 s.frames);
  values = (decimal_back 2 s.hours, decimal_back 2 s.minutes, decimal_back 2 s.seconds, decimal_back 2 s.frames);
}
