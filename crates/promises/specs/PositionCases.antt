-- The worked cases of positions: rows of a single table, under one statement.
-- Assumes nothing.
use Rattle.timecodes.specs.declared.Timecode.{Timecode}
use Rattle.answers.specs.declared.Refusal.{Refusal}
use Rattle.std.specs.Prelude.{ℕ, ◌≡◌, List, [], ◌∷◌, ℤ, pos, negsuc, None, Result, Ok, Err}
use Prim.Native.String.{String}
use Rattle.answers.specs.Causes.{refusal_number, refusal}
use Rattle.timecodes.specs.declared.kinds.Kind.TheVariants.{Position}
use Rattle.timecodes.specs.Timecode.{timecode, position}
use Rattle.timecodes.specs.Made.{settled}
use Rattle.film.specs.declared.FilmFormat.{FilmFormat}
use Rattle.film.specs.declared.FilmFormat.TheVariants.{FF35mm4perf}
use Rattle.reading.specs.declared.Read.TheVariants as read
use Rattle.reading.specs.For.{read_for}
use Rattle.label_writer.specs.LabelText.{label_text}
use Rattle.time.specs.Frames.{frames_at, ticks_at, seconds_at}
use Rattle.arithmetic.specs.Sum.{add_of, sub_of}
use Rattle.arithmetic.specs.Count.{neg_of, rebase_of}
use Rattle.arithmetic.specs.Compare.{compare_of}
use Rattle.chains.specs.Chain.{convert_of}
use Rattle.lines.specs.Output.{bytes_of}

-- what a row says
pub data Case : Type 0 where
  label : (rate : ℕ) (count : ℤ) (text : String) → Case  -- rate 5: position 2589407 is `23:59:59;29`
  gives : (rate : ℕ) (text : String) (number : ℕ) → Case  -- rate 5: `24:00:00;00` gives 14 for a position
  takes : (rate : ℕ) (text : String) (count : ℤ) (format : FilmFormat) → Case  -- rate 5: `-0+01` is 4-perf, position 2589407
  comes : (asked answer : Result Timecode Refusal) → Case  -- position 0 at rate 2 less 1 at rate 8 comes to position 2073599
  orders : (asked answer : Result ℤ Refusal) → Case  -- two positions compare by instant

-- a position is a text where it is written so, and the text is read as it
abbrev pub Holds : Case → Type 0
Holds (label rate count text) =
    (label_text rate count ≡ bytes_of text) × (read_for Position (bytes_of text) None rate ≡ Ok (read.Label (position count rate)))
Holds (gives rate text number) =
    (read_for Position (bytes_of text) None rate ≡ Err (refusal number)) × (refusal_number (refusal number) ≡ number)
Holds (takes rate text count format) = read_for Position (bytes_of text) None rate ≡ Ok (read.Footage (position count rate) format)
Holds (comes asked answer) = asked ≡ answer
Holds (orders asked answer) = asked ≡ answer

abbrev pub All : List Case → Type 0
All [] = Unit {0}
All (c ∷ cs) = Holds c × All cs

-- labels: the day's ends, each strict limit, the sign, 14 before 3; a footage gets none
abbrev pub read_cases : List Case
read_cases =
    label 5 (pos 0) "00:00:00;00"
    ∷ label 5 (pos 2589407) "23:59:59;29"
    ∷ label 11 (pos 5178815) "23:59:59;59"
    ∷ label 1 (pos 2073599) "23:59:59:23"
    ∷ gives 5 "24:00:00;00" 14
    ∷ gives 5 "00:60:00;00" 14
    ∷ gives 5 "00:00:60;00" 14
    ∷ gives 5 "00:00:00;30" 14
    ∷ gives 5 "-00:00:00;01" 14
    ∷ gives 5 "-0" 14
    ∷ gives 13 "24:00:00;00" 6
    ∷ gives 5 "24:01:00;00" 14
    ∷ gives 5 "00:01:00;00" 3
    ∷ gives 5 "0+20" 13
    ∷ takes 5 "-0+01" (pos 2589407) FF35mm4perf
    ∷ []

-- made: reduced by whole days, negative ones too, behind the bound and behind rounding; a day has the dropped labels left out
abbrev pub made_cases : List Case
made_cases =
    comes (settled Position (frames_at (negsuc 0) 5)) (Ok (position (pos 2589407) 5))
    ∷ comes (settled Position (frames_at (pos 2589408) 5)) (Ok (position (pos 0) 5))
    ∷ comes (settled Position (frames_at (pos 2589408) 4)) (Ok (position (pos 2589408) 4))
    ∷ comes (settled Position (frames_at (pos 400000000) 5)) (Ok (position (pos 1231168) 5))
    ∷ comes (settled Position (frames_at (negsuc 399999999) 5)) (Ok (position (pos 1358240) 5))
    ∷ comes (settled Position (frames_at (pos 400000001) 5)) (Err (refusal 5))
    ∷ comes (settled Position (ticks_at (negsuc 4237833599) 5)) (Ok (position (pos 2589407) 5))
    ∷ comes (settled Position (seconds_at (pos 86400) 1 3)) (Ok (position (pos 0) 3))
    ∷ []

-- added, taken and compared: what may be mixed, the order 6, 15, 5, and the bound before the day
abbrev pub mixed_cases : List Case
mixed_cases =
    comes (add_of (position (pos 10) 5) (timecode (pos 3) 5)) (Ok (position (pos 13) 5))
    ∷ comes (add_of (timecode (pos 3) 5) (position (pos 10) 5)) (Ok (position (pos 13) 5))
    ∷ comes (sub_of (position (pos 0) 2) (timecode (pos 1) 8)) (Ok (position (pos 2073599) 2))
    ∷ comes (sub_of (position (pos 0) 5) (position (pos 2589407) 5)) (Ok (timecode (negsuc 2589406) 5))
    ∷ comes (add_of (position (pos 2589407) 5) (timecode (pos 400000000) 5)) (Err (refusal 5))
    ∷ comes (add_of (position (pos 0) 5) (position (pos 0) 5)) (Err (refusal 15))
    ∷ comes (sub_of (timecode (pos 0) 5) (position (pos 0) 5)) (Err (refusal 15))
    ∷ comes (add_of (position (pos 0) 13) (position (pos 9999999) 5)) (Err (refusal 6))
    ∷ comes (add_of (position (pos 0) 5) (position (pos 9999999) 5)) (Err (refusal 15))
    ∷ comes (add_of (position (pos 2589408) 5) (timecode (pos 0) 5)) (Err (refusal 5))
    ∷ comes (add_of (timecode (pos 0) 5) (position (pos 2589408) 5)) (Err (refusal 5))
    ∷ comes (neg_of (position (pos 0) 13)) (Err (refusal 6))
    ∷ comes (neg_of (position (pos 9999999) 5)) (Err (refusal 15))
    ∷ comes (rebase_of (position (pos 0) 5) 13) (Err (refusal 6))
    ∷ comes (convert_of (position (pos 10) 5) []) (Err (refusal 15))
    ∷ orders (compare_of (position (pos 1) 2) (position (pos 1) 8)) (Ok (pos 1))
    ∷ orders (compare_of (position (pos 0) 5) (timecode (pos 0) 5)) (Err (refusal 15))
    ∷ []

-- each row holds
abbrev pub PositionCases : Type 0
PositionCases = All read_cases × All made_cases × All mixed_cases
