-- What a question is (docs/WHY.md): options in any order, each at most once, then the rate, and behind one space the text; words are divided
-- by one space. How the places are found; that it is the grammar's: Statements.antt.
-- Assumes nothing.
use Rattle.std.specs.Prelude.{ℕ, ◌+◌, List, Bool, cond, not, ◌&&◌, eqb, leb, length, drop, Option, Some, None}
use Rattle.laws.specs.Spelt.{spelt}
use Rattle.timecodes.specs.declared.kinds.Kind.{Kind}
use Rattle.timecodes.specs.declared.kinds.Kind.TheVariants.{Length, Position}
use Rattle.timecodes.specs.Kinds.{is_position}
use Rattle.digits.specs.declared.Run.{Run}
use Rattle.digits.specs.Digits.{is_byte, first_is, run_of}
use Rattle.asking.specs.Table.{word_first}
use Rattle.telling.specs.declared.told.Options.{Options}
use Rattle.telling.specs.declared.told.Way.{Way}
use Rattle.telling.specs.declared.questions.Opening.{Opening}
use Rattle.telling.specs.declared.questions.Question.{Question}

-- ---- words: how many bytes the one in front has, of a short and a long one, the space behind it with it, if it is one of them
unfoldable pub one_of : (short long l : List ℕ) → Option ℕ
one_of short long l = cond (word_first short l) (Some (length short)) (cond (word_first long l) (Some (length long)) None)

abbrev pub position_word : List ℕ → Option ℕ
position_word l = one_of (spelt "-p ") (spelt "--position ") l

abbrev pub format_word : List ℕ → Option ℕ
format_word l = one_of (spelt "-f ") (spelt "--format ") l

-- a number has one to nine digits
unfoldable pub is_number : Run → Bool
is_number run = not (eqb run.count 0) && leb run.count 9

-- ---- options
abbrev pub options : Kind → (format : Option ℕ) → Options
options kind format = record { kind = kind; format = format }

abbrev pub opening : Options → (at : ℕ) → Opening
opening o at = record { options = o; at = at }

abbrev pub no_option : Opening
no_option = opening (options Length None) 0

abbrev pub with_position : Opening → (n : ℕ) → Opening
with_position o n = opening (options Position o.options.format) (o.at + n)

abbrev pub with_format : Opening → (format next : ℕ) → Opening
with_format o format next = opening (options o.options.kind (Some format)) next

-- behind the word a number, and a space behind that: the format; l is what is left behind the word, which ends at `at`
unfoldable pub format_at : (l : List ℕ) → Opening → (at : ℕ) → Opening
format_at l o at =
    cond (is_number (run_of l) && first_is (is_byte 32) (drop (run_of l).count l))
    (with_format o (run_of l).value (at + (run_of l).count + 1))
    o

-- the format behind its word, where that stands in front of l
abbrev pub format_behind : (l : List ℕ) → Opening → (word : Option ℕ) → Opening
format_behind l o (Some n) = format_at (drop n l) o (o.at + n)
format_behind l o None = o

-- the format that stands in front of l, where none was stated yet; else as before
abbrev pub format_after : (l : List ℕ) → Opening → (stated : Option ℕ) → Opening
format_after l o (Some format) = o
format_after l o None = format_behind l o (format_word l)

unfoldable pub format_in : (l : List ℕ) → Opening → Opening
format_in l o = format_after l o o.options.format

-- the position behind its word, where that stands in front of l; else the format
abbrev pub position_behind : (l : List ℕ) → Opening → (word : Option ℕ) → Opening
position_behind l o (Some n) = with_position o n
position_behind l o None = format_in l o

-- one option more, where one stands in front of l that has not stood yet
unfoldable pub option_in : (l : List ℕ) → Opening → Opening
option_in l o = cond (is_position o.options.kind) (format_in l o) (position_behind l o (position_word l))

abbrev pub option_of : (line : List ℕ) → Opening → Opening
option_of line o = option_in (drop o.at line) o

-- ---- the rate, and the text behind it
abbrev pub way_of : Options → (rate : ℕ) → Way
way_of o rate = record { options = o; rate = rate }

-- a question whose text begins at a place, and one without a text
abbrev pub with_text : Way → (at : ℕ) → Option Question
with_text way at = Some (record { way = way; text = Some at })

abbrev pub no_text : Way → Option Question
no_text way = Some (record { way = way; text = None })

-- the rate in front of l ends at `next`: behind it nothing, or a space and the text
unfoldable pub ended_at : Way → (rest : List ℕ) (next : ℕ) → Option Question
ended_at way rest next =
    cond (eqb (length rest) 0) (no_text way)
    (cond (first_is (is_byte 32) rest) (with_text way (next + 1)) None)

unfoldable pub rated_in : (l : List ℕ) → Opening → Option Question
rated_in l o =
    cond (is_number (run_of l)) (ended_at (way_of o.options (run_of l).value) (drop (run_of l).count l) (o.at + (run_of l).count)) None

abbrev pub rated_of : (line : List ℕ) → Opening → Option Question
rated_of line o = rated_in (drop o.at line) o

-- two options at most
unfoldable pub question_of : (line : List ℕ) → Option Question
question_of line = rated_of line (option_of line (option_of line no_option))
