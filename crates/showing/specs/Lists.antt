-- How the calculator shows a shot list (docs/ASK.md): its text, and what is put on a sheet.
-- Assumes nothing.
use Rattle.std.specs.Prelude.{ℕ, List, [], ◌∷◌, ◌++◌, false, ℤ, length}
use Rattle.written.specs.Parts.{signed_text}
use Rattle.streams.specs.Sheet.{Sheet, put_on}
use Rattle.laws.specs.Spelt.{spelt}
use Rattle.shot_lists.specs.declared.records.Record.{Record}
use Rattle.shot_lists.specs.declared.records.Record.TheVariants.{Rate, Shot, Reel}
use Rattle.shot_lists.specs.Reading.{Reading, AllOf, FaultOf}
use Rattle.showing.specs.Each.{of_refusal}
use Rattle.showing.specs.Shown.{count_text, shown_on}

-- ---- its text
-- a record as words, a space in front of each
unfoldable pub record_text : Record → List ℕ
record_text (Rate n) = spelt " rate " ++ signed_text false n
record_text (Shot first end) = spelt " shot " ++ (count_text first ++ (32 ∷ count_text end))
record_text (Reel n) = spelt " reel " ++ signed_text false n

-- records one after the other
unfoldable pub records_text : List Record → List ℕ
records_text [] = []
records_text (r ∷ rs) = record_text r ++ records_text rs

-- how many records a list has, and each as words
unfoldable pub list_text : List Record → List ℕ
list_text rs = signed_text false (length rs) ++ records_text rs

-- ---- on a sheet, part by part
-- a word and a number
unfoldable pub numbered_on : Sheet → (word : List ℕ) (n : ℕ) → Sheet
numbered_on s word n = put_on (put_on s word) (signed_text false n)

-- a shot's first frame and its end
unfoldable pub frames_on : Sheet → (first end : ℤ) → Sheet
frames_on s first end = put_on (put_on (put_on (put_on s (spelt " shot ")) (count_text first)) (32 ∷ [])) (count_text end)

-- a record as words
abbrev pub record_on : Sheet → Record → Sheet
record_on s (Rate n) = numbered_on s (spelt " rate ") n
record_on s (Shot first end) = frames_on s first end
record_on s (Reel n) = numbered_on s (spelt " reel ") n

-- records one after the other
unfoldable pub records_on : Sheet → List Record → Sheet
records_on s [] = s
records_on s (r ∷ rs) = records_on (record_on s r) rs

-- the records that were read; of a list with a fault none
abbrev pub reading_on : Sheet → Reading → Sheet
reading_on s (AllOf rs) = records_on s rs
reading_on s (FaultOf e) = s

-- a list as a line: how many records, and each; or the refusal of its earliest record at fault
unfoldable pub list_on : Sheet → Reading → Sheet
list_on s (AllOf rs) = put_on (records_on (put_on s (signed_text false (length rs))) rs) (10 ∷ [])
list_on s (FaultOf e) = shown_on s (of_refusal e)
