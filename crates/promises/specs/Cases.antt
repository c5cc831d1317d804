-- The worked cases: rows of a single table, under one statement.
-- Assumes nothing.
use Rattle.std.specs.Prelude.{ℕ, ◌≡◌, true, List, [], ◌∷◌, ℤ, pos, negsuc, Option, Some, None, Ok, Err}
use Prim.Native.String.{String}
use Rattle.answers.specs.Causes.{refusal_number, refusal}
use Rattle.answers.specs.Refusals.{at_place}
use Rattle.rates.specs.Rates.{is_rate}
use Rattle.film.specs.declared.FilmFormat.{FilmFormat}
use Rattle.film.specs.declared.FilmFormat.TheVariants.{FF35mm3perf, FF35mm2perf, FF16mm}
use Rattle.film.specs.Film.{format_number}
use Rattle.reading.specs.declared.Read.TheVariants.{Label, Footage}
use Rattle.reading.specs.Answer.{number_of}
use Rattle.reading.specs.Reading.{read_text}
use Rattle.label_writer.specs.LabelText.{label_text}
use Rattle.footage_writer.specs.FootageText.{footage_text}
use Rattle.shot_lists.specs.declared.records.Record.{Record}
use Rattle.shot_lists.specs.declared.records.Record.TheVariants.{Rate, Shot, Reel}
use Rattle.shot_lists.specs.Entries.{on_disk, in_numbers}
use Rattle.shot_lists.specs.Reading.{AllOf, FaultOf, read_of}
use Rattle.shot_writer.specs.ListText.{list_bytes}
use Rattle.arithmetic.specs.Truncating.{div_of}
use Rattle.arithmetic.specs.Flooring.{divq_of}
use Rattle.arithmetic.specs.Sum.{add_of}
use Rattle.timecodes.specs.Timecode.{timecode}
use Rattle.chains.specs.Chain.{convert_of}
use Rattle.lines.specs.Output.{bytes_of}

-- what a row says
pub data Case : Type 0 where
  label : (rate : ℕ) (count : ℤ) (text : String) → Case  -- rate 5: 1800 is `00:01:00;02`
  gives : (rate : ℕ) (text : String) (number : ℕ) → Case  -- rate 5: `00:01:00;00` gives 3
  stops : (stated : Option ℕ) (rate : ℕ) (text : String) (number place : ℕ) → Case  -- 4-perf stated, rate 2: `1+2.` gives 1 at 4
  takes : (stated : Option ℕ) (text : String) (count : ℤ) (format : FilmFormat) → Case  -- 3-perf stated: `1+00` is 21
  lists : (bytes : List ℕ) (records : List Record) → Case  -- 1 5 3 7 0 0 0 is rate 5, reel 7
  hands_over : (numbers : List ℤ) (records : List Record) → Case  -- 1 5 3 7 hands rate 5, reel 7 over
  list_refused : (bytes : List ℕ) (number : ℕ) → Case  -- 1 5 4 gives 9
  footage : (format : FilmFormat) (count : ℤ) (text : String) → Case  -- 3-perf: 21 is `1+00.1`
  divided : (count n answer : ℤ) → Case  -- -1 divided by integer 2 is 0
  divided_by : (count p : ℤ) (q : ℕ) (answer : ℤ) → Case  -- -1 divided by 2/1 is -1
  plus : (count : ℤ) (rate : ℕ) (other : ℤ) (otherRate : ℕ) (answer : ℤ) → Case  -- 5 at rate 2 plus -1 at rate 8 is 5
  through : (count : ℤ) (rate : ℕ) (list : List ℕ) (answer : ℤ) (last : ℕ) → Case  -- 1 at rate 12 through rates 2, 12 ends at 0

-- a count is a text where it is written so, and the text is read as the count; what names no rate holds at every rate
abbrev pub Holds : Case → Type 0
Holds (label rate count text) = (label_text rate count ≡ bytes_of text) × (read_text (bytes_of text) None rate ≡ Ok (Label (timecode count rate)))
Holds (gives rate text number) = number_of (read_text (bytes_of text) None rate) ≡ number
Holds (stops stated rate text number place) =
    (read_text (bytes_of text) stated rate ≡ Err (at_place (refusal number) place)) × (refusal_number (refusal number) ≡ number)
Holds (footage format count text) =
    (footage_text format count ≡ bytes_of text)
    × ((rate : ℕ) → is_rate rate ≡ true → read_text (bytes_of text) (Some (format_number format)) rate ≡ Ok (Footage (timecode count rate) format))
Holds (takes stated text count format) = (rate : ℕ) → is_rate rate ≡ true → read_text (bytes_of text) stated rate ≡ Ok (Footage (timecode count rate) format)
Holds (lists bytes rs) = (read_of on_disk bytes ≡ AllOf rs) × (list_bytes rs ≡ bytes)
Holds (hands_over numbers rs) = read_of in_numbers numbers ≡ AllOf rs
Holds (list_refused bytes number) = (read_of on_disk bytes ≡ FaultOf (refusal number)) × (refusal_number (refusal number) ≡ number)
Holds (divided count n answer) = (rate : ℕ) → is_rate rate ≡ true → div_of (timecode count rate) n ≡ Ok (timecode answer rate)
Holds (divided_by count p q answer) = (rate : ℕ) → is_rate rate ≡ true → divq_of (timecode count rate) p q ≡ Ok (timecode answer rate)
Holds (plus count rate other otherRate answer) = add_of (timecode count rate) (timecode other otherRate) ≡ Ok (timecode answer rate)
Holds (through count rate list answer last) = convert_of (timecode count rate) list ≡ Ok (timecode answer last)

abbrev pub All : List Case → Type 0
All [] = Unit {0}
All (c ∷ cs) = Holds c × All cs

-- the table: -1 is negsuc 0
abbrev pub cases : List Case
cases =
    label 5 (pos 1799) "00:00:59;29"
    ∷ label 5 (pos 1800) "00:01:00;02"
    ∷ gives 5 "00:01:00;00" 3
    ∷ label 5 (pos 17982) "00:10:00;00"
    ∷ label 5 (pos 901) "00:00:30;01"
    ∷ label 5 (pos 2589407) "23:59:59;29"
    ∷ label 5 (pos 2589408) "24:00:00;00"
    ∷ label 11 (pos 3600) "00:01:00;04"
    ∷ gives 11 "00:01:00;03" 3
    ∷ footage FF35mm3perf (pos 21) "1+00.1"
    ∷ footage FF35mm3perf (pos 63) "2+21.2"
    ∷ divided (negsuc 0) (pos 2) (pos 0)
    ∷ divided_by (negsuc 0) (pos 2) 1 (negsuc 0)
    ∷ plus (pos 5) 2 (negsuc 0) 8 (pos 5)
    ∷ through (pos 1) 12 (2 ∷ 12 ∷ []) (pos 0) 12
    ∷ stops (Some 1) 2 "1+2." 1 4
    ∷ stops None 2 "12+3:4" 1 4
    ∷ stops None 2 "1:00+5" 1 4
    ∷ stops None 2 "-0000000001:0000000002" 2 1
    ∷ stops (Some 1) 2 "1+2.0000000003" 2 4
    ∷ takes (Some 2) "1+00" (pos 21) FF35mm3perf
    ∷ takes None "4+00.01" (pos 85) FF35mm3perf
    ∷ stops None 2 "0+20" 13 0
    ∷ stops (Some 2) 2 "1+21" 13 0
    ∷ stops None 2 "-4+00.4" 13 0
    ∷ stops None 2 "25000000+16" 13 0
    ∷ stops (Some 1) 2 "1+16.9" 4 0
    ∷ takes (Some 3) "0+31" (pos 31) FF35mm2perf
    ∷ takes (Some 4) "0+19" (pos 19) FF16mm
    ∷ stops (Some 3) 2 "1+00.1" 4 0
    ∷ stops (Some 4) 2 "1+00.1" 4 0
    ∷ lists (1 ∷ 5 ∷ 2 ∷ 246 ∷ 255 ∷ 255 ∷ 255 ∷ 100 ∷ 0 ∷ 0 ∷ 0 ∷ 3 ∷ 7 ∷ 0 ∷ 0 ∷ 0 ∷ []) (Rate 5 ∷ Shot (negsuc 9) (pos 100) ∷ Reel 7 ∷ [])
    ∷ hands_over (pos 1 ∷ pos 5 ∷ pos 2 ∷ negsuc 9 ∷ pos 100 ∷ pos 3 ∷ pos 7 ∷ []) (Rate 5 ∷ Shot (negsuc 9) (pos 100) ∷ Reel 7 ∷ [])
    ∷ lists [] []
    ∷ lists (1 ∷ 12 ∷ 2 ∷ 5 ∷ 0 ∷ 0 ∷ 0 ∷ 5 ∷ 0 ∷ 0 ∷ 0 ∷ []) (Rate 12 ∷ Shot (pos 5) (pos 5) ∷ [])
    ∷ list_refused (1 ∷ 5 ∷ 4 ∷ []) 9
    ∷ list_refused (1 ∷ 5 ∷ 2 ∷ 0 ∷ 0 ∷ 0 ∷ 0 ∷ 0 ∷ 0 ∷ 0 ∷ []) 10
    ∷ list_refused (1 ∷ 13 ∷ 4 ∷ []) 6
    ∷ list_refused (2 ∷ 1 ∷ 132 ∷ 215 ∷ 23 ∷ 0 ∷ 0 ∷ 0 ∷ 0 ∷ []) 5
    ∷ list_refused (3 ∷ 7 ∷ 0 ∷ 0 ∷ 0 ∷ 2 ∷ 1 ∷ 0 ∷ 0 ∷ 0 ∷ 0 ∷ 0 ∷ 0 ∷ 0 ∷ []) 11
    ∷ list_refused (1 ∷ 5 ∷ 3 ∷ 7 ∷ 0 ∷ 0 ∷ 0 ∷ 2 ∷ 1 ∷ 0 ∷ 0 ∷ 0 ∷ 0 ∷ 0 ∷ 0 ∷ 0 ∷ []) 12
    ∷ []

-- each row holds
abbrev pub StarredCases : Type 0
StarredCases = All cases
