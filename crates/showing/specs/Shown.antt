-- How the calculator shows an answer (docs/ASK.md): its text, and what is put on a sheet.
-- Assumes nothing.
use Rattle.answers.specs.declared.Refusal.{Refusal}
use Rattle.std.specs.Prelude.{ℕ, List, [], ◌∷◌, ◌++◌, Bool, true, false, ℤ, nat_abs, Result, Ok, Err, Option, Some, None}
use Rattle.numbers.specs.Sign.{is_neg}
use Rattle.written.specs.Parts.{signed_text}
use Rattle.streams.specs.Sheet.{Sheet, put_on}
use Rattle.hex_bytes.specs.Hex.{hex_text}
use Rattle.laws.specs.Spelt.{spelt}
use Rattle.showing.specs.declared.Word.{Word}
use Rattle.showing.specs.declared.Word.TheVariants as word
use Rattle.showing.specs.declared.Second.{Second}
use Rattle.showing.specs.declared.Numbers.{Numbers}
use Rattle.showing.specs.declared.Shown.{Shown}
use Rattle.showing.specs.declared.Shown.TheVariants as shown
use Rattle.showing.specs.Each.{of_refusal}

-- ---- its text
abbrev pub count_text : ℤ → List ℕ
count_text x = signed_text (is_neg x) (nat_abs x)

-- the word before numbers
abbrev pub word_text : Option Word → List ℕ
word_text (Some word.Label) = spelt "label "
word_text (Some word.Footage) = spelt "footage "
word_text (Some word.Refused) = spelt "refused "
word_text None = []

-- and behind it the mark of a position, `@`
abbrev pub front_text : Option Word → (position : Bool) → List ℕ
front_text word false = word_text word
front_text word true = word_text word ++ (64 ∷ [])

-- the commands in short, each line but the last with its end
unfoldable pub help_text : List ℕ
help_text =
    spelt "read RATE TEXT: label COUNT or footage COUNT FORMAT" ++ (10
    ∷ spelt "read_as FORMAT RATE TEXT: footage COUNT FORMAT" ++ (10
    ∷ spelt "read_runtime RATE TEXT: COUNT" ++ (10
    ∷ spelt "label RATE COUNT PLACE ROOM: LENGTH LINE" ++ (10
    ∷ spelt "footage FORMAT RATE COUNT PLACE ROOM: LENGTH LINE" ++ (10
    ∷ spelt "runtime RATE COUNT PRECISION PLACE ROOM: LENGTH LINE" ++ (10
    ∷ spelt "count RATE COUNT: COUNT" ++ (10
    ∷ spelt "from_ticks RATE TICKS: COUNT" ++ (10
    ∷ spelt "from_seconds RATE P Q: COUNT" ++ (10
    ∷ spelt "ticks RATE COUNT: TICKS" ++ (10
    ∷ spelt "seconds RATE COUNT: P/Q" ++ (10
    ∷ spelt "minute M: FRAME" ++ (10
    ∷ spelt "add, sub RATE COUNT RATE COUNT: COUNT" ++ (10
    ∷ spelt "cmp RATE COUNT RATE COUNT: -1, 0 or 1" ++ (10
    ∷ spelt "mul, divq, remq RATE COUNT P Q: COUNT" ++ (10
    ∷ spelt "div, rem RATE COUNT N: COUNT" ++ (10
    ∷ spelt "neg, abs RATE COUNT: COUNT" ++ (10
    ∷ spelt "rebase RATE COUNT RATE: COUNT" ++ (10
    ∷ spelt "convert RATE COUNT RATE ..: COUNT RATE" ++ (10
    ∷ spelt "read_list HEX: N RECORDS" ++ (10
    ∷ spelt "write_list PLACE ROOM RECORDS: LENGTH HEX" ++ (10
    ∷ spelt "why RATE FORMAT PLACE ROOM TEXT: NUMBER PLACE COUNT LIMIT VALUE LABEL LENGTH LINE" ++ (10
    ∷ spelt "A FORMAT of why that is - states none" ++ (10
    ∷ spelt "route RATE SHARDS LENGTH TEXT: FIRST AFTER" ++ (10
    ∷ spelt "SHARDS of route are FIRST-END,FIRST-END .. or - for none" ++ (10
    ∷ spelt "A refusal is: refused N; of read, read_as and route: refused N PLACE" ++ (10
    ∷ spelt "The first RATE of a command other than route, and the second of add, sub and cmp, may have @ before it: a position; a COUNT that is one has it too"))))))))))))))))))))))))))

abbrev pub second_text : (mark y : ℕ) → List ℕ
second_text mark y = mark ∷ signed_text false y

-- a number, and behind it a second one where there is one
abbrev pub behind_text : (text : List ℕ) → Option Second → List ℕ
behind_text text None = text
behind_text text (Some s) = text ++ second_text s.mark s.number

-- that alone or behind a word
abbrev pub numbers_text : Numbers → List ℕ
numbers_text n = front_text n.word n.position ++ behind_text (count_text n.first) n.second

-- the commands in short, that a line is not understood, or numbers
unfoldable pub parts_text : Shown → List ℕ
parts_text shown.Help = help_text
parts_text shown.NotUnderstood = spelt "not understood"
parts_text (shown.Numbers n) = numbers_text n

-- and the line's end
unfoldable pub shown_text : Shown → List ℕ
shown_text s = parts_text s ++ (10 ∷ [])

-- of a writer the length or the refusal, behind a space the whole line, and the line's end
abbrev pub length_text : Result ℕ Refusal → List ℕ
length_text (Ok n) = signed_text false n
length_text (Err e) = parts_text (of_refusal e)

unfoldable pub written_text : Result ℕ Refusal → (line : List ℕ) → List ℕ
written_text w line = length_text w ++ (32 ∷ line ++ (10 ∷ []))

-- ---- on a sheet, part by part
abbrev pub word_on : Sheet → Option Word → Sheet
word_on s (Some word.Label) = put_on s (spelt "label ")
word_on s (Some word.Footage) = put_on s (spelt "footage ")
word_on s (Some word.Refused) = put_on s (spelt "refused ")
word_on s None = s

abbrev pub front_on : Sheet → Option Word → (position : Bool) → Sheet
front_on s word false = word_on s word
front_on s word true = put_on (word_on s word) (64 ∷ [])

unfoldable pub second_on : Sheet → (mark y : ℕ) → Sheet
second_on s mark y = put_on (put_on s (mark ∷ [])) (signed_text false y)

abbrev pub first_on : Sheet → Numbers → Sheet
first_on s n = put_on (front_on s n.word n.position) (count_text n.first)

abbrev pub behind_on : Sheet → Option Second → Sheet
behind_on s None = s
behind_on s (Some t) = second_on s t.mark t.number

abbrev pub numbers_on : Sheet → Numbers → Sheet
numbers_on s n = behind_on (first_on s n) n.second

abbrev pub parts_on : Sheet → Shown → Sheet
parts_on s shown.Help = put_on s help_text
parts_on s shown.NotUnderstood = put_on s (spelt "not understood")
parts_on s (shown.Numbers n) = numbers_on s n

unfoldable pub shown_on : Sheet → Shown → Sheet
shown_on s a = put_on (parts_on s a) (10 ∷ [])

abbrev pub length_on : Sheet → Result ℕ Refusal → Sheet
length_on s (Ok n) = put_on s (signed_text false n)
length_on s (Err e) = parts_on s (of_refusal e)

unfoldable pub written_on : Sheet → Result ℕ Refusal → (line : List ℕ) → Sheet
written_on s w line = put_on (put_on (put_on (length_on s w) (32 ∷ [])) line) (10 ∷ [])

-- the same with the line as HEX
abbrev pub hex_written_on : Sheet → Result ℕ Refusal → (line : List ℕ) → Sheet
hex_written_on s w line = written_on s w (hex_text line)
