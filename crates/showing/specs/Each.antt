-- What is shown of each kind of answer (docs/ASK.md): a word, and its numbers; or the refusal.
-- Assumes nothing.
use Rattle.answers.specs.Causes.{refusal_number}
use Rattle.std.specs.Prelude.{ℕ, false, ℤ, pos, Result, Ok, Err, Option, Some, None}
use Rattle.answers.specs.declared.Refusal.{Refusal}
use Rattle.timecodes.specs.declared.Timecode.{Timecode}
use Rattle.timecodes.specs.Kinds.{is_position}
use Rattle.film.specs.Film.{format_number}
use Rattle.reading.specs.declared.Read.{Read}
use Rattle.reading.specs.declared.Read.TheVariants as read
use Rattle.time.specs.declared.Fraction.{Fraction}
use Rattle.showing.specs.declared.Word.{Word}
use Rattle.showing.specs.declared.Word.TheVariants as word
use Rattle.showing.specs.declared.Shown.{Shown}
use Rattle.showing.specs.declared.Shown.TheVariants as shown

-- ---- what may be shown
abbrev pub one_number : Option Word → ℤ → Shown
one_number word x = shown.Numbers (record { word = word; position = false; first = x; second = None })

abbrev pub two_numbers : Option Word → ℤ → (mark y : ℕ) → Shown
two_numbers word x mark y = shown.Numbers (record { word = word; position = false; first = x; second = Some (record { mark = mark; number = y }) })

-- the count of a timecode, marked where it is a position; behind a space another number
abbrev pub one_count : Option Word → Timecode → Shown
one_count word tc = shown.Numbers (record { word = word; position = is_position tc.kind; first = tc.count; second = None })

abbrev pub count_and : Option Word → Timecode → (y : ℕ) → Shown
count_and word tc y =
    shown.Numbers (record { word = word; position = is_position tc.kind; first = tc.count; second = Some (record { mark = 32; number = y }) })

-- ---- of each answer
-- a refusal is `refused` and its number
abbrev pub of_refusal : Refusal → Shown
of_refusal e = one_number (Some word.Refused) (pos (refusal_number e))

-- that of a text is `refused`, its number and its place
abbrev pub of_text_refusal : Refusal → Shown
of_text_refusal e = two_numbers (Some word.Refused) (pos (refusal_number e)) 32 e.place

-- of a timecode the count, with `@` before it where it is a position
abbrev pub of_answer : Result Timecode Refusal → Shown
of_answer (Ok tc) = one_count None tc
of_answer (Err e) = of_refusal e

-- of one that was converted `COUNT RATE`
abbrev pub of_converted : Result Timecode Refusal → Shown
of_converted (Ok tc) = count_and None tc tc.rate
of_converted (Err e) = of_refusal e

-- a number: a count, ticks, or an order (-1, 0 or 1)
abbrev pub of_number : Result ℤ Refusal → Shown
of_number (Ok z) = one_number None z
of_number (Err e) = of_refusal e

-- seconds are `P/Q`
abbrev pub of_timed : Result Fraction Refusal → Shown
of_timed (Ok f) = two_numbers None f.p 47 f.q
of_timed (Err e) = of_refusal e

-- a text is `label COUNT` or `footage COUNT FORMAT`
abbrev pub of_read : Result Read Refusal → Shown
of_read (Ok (read.Label tc)) = one_count (Some word.Label) tc
of_read (Ok (read.Footage tc format)) = count_and (Some word.Footage) tc (format_number format)
of_read (Err e) = of_text_refusal e
