-- What a line of input holds (BEHAVIOUR: The line program): two digits of rate, a space, a text.
-- Assumes nothing.
use Rattle.timecodes.specs.declared.Timecode.{Timecode}
use Rattle.answers.specs.declared.Refusal.{Refusal}
use Rattle.std.specs.Prelude.{ℕ, List, [], ◌∷◌, Bool, not, ◌&&◌, length, take, drop, leb, eqb, None, Result, Ok, Err}
use Rattle.digits.specs.Digits.{all_digits, value_of, first_is}
use Rattle.answers.specs.Order.{Condition, when, unless}
use Rattle.answers.specs.Refusals.{no_shape}
use Rattle.reading.specs.declared.Read.{Read}
use Rattle.reading.specs.declared.Read.TheVariants as read
use Rattle.reading.specs.Reading.{read_text}

-- ---- its parts
-- two digits of rate, a space, a text
abbrev pub is_begun : List ℕ → Bool
is_begun line = all_digits (take 2 line) && first_is (λ b. eqb b 32) (drop 2 line)

abbrev pub rate_in : List ℕ → ℕ
rate_in line = value_of (take 2 line)

abbrev pub text_in : List ℕ → List ℕ
text_in line = drop 3 line

-- at most 64 bytes (newline not counted), and so begun
unfoldable pub is_line : List ℕ → Bool
is_line line = leb (length line) 64 && is_begun line

-- ---- what it holds
-- a timecode, whether a label's or a footage's
abbrev pub line_holds : Result Read Refusal → Result Timecode Refusal
line_holds (Ok (read.Label tc)) = Ok tc
line_holds (Ok (read.Footage tc format)) = Ok tc
line_holds (Err e) = Err e

-- 1: a line over 64 bytes, or not so begun
abbrev pub bad_line : List ℕ → Condition
bad_line line = when no_shape (not (is_line line))

-- it gets 1, before any 6; else the text is read at the rate, and no film format is stated
unfoldable pub line_of : List ℕ → Result Timecode Refusal
line_of line = unless Err (bad_line line ∷ []) (line_holds (read_text (text_in line) None (rate_in line)))
