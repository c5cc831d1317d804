-- What a text is answered (BEHAVIOUR: Text shapes): the number, timecode and film format of each case.
-- Assumes nothing.
use Rattle.answers.specs.declared.Refusal.{Refusal}
use Rattle.std.specs.Prelude.{ℕ, pos, Result, Ok, Err, ℤ}
use Rattle.timecodes.specs.declared.Timecode.{Timecode}
use Rattle.timecodes.specs.Timecode.{timecode}
use Rattle.film.specs.declared.FilmFormat.{FilmFormat}
use Rattle.film.specs.Film.{format_number}
use Rattle.answers.specs.Refusals as answers
use Rattle.reading.specs.declared.Read.{Read}
use Rattle.reading.specs.declared.Read.TheVariants.{Label, Footage}

-- the number of an answer (0: not refused) and its place in the text, its timecode (a refusal's numbers are 0), and the number of its
-- film format (0: none)
abbrev pub number_of : Result Read Refusal → ℕ
number_of read = answers.number_of read

abbrev pub place_of : Result Read Refusal → ℕ
place_of (Ok (Label tc)) = 0
place_of (Ok (Footage tc format)) = 0
place_of (Err e) = e.place

abbrev pub timecode_of : Result Read Refusal → Timecode
timecode_of (Ok (Label tc)) = tc
timecode_of (Ok (Footage tc format)) = tc
timecode_of (Err e) = timecode (pos 0) 0

abbrev pub format_of : Result Read Refusal → ℕ
format_of (Ok (Label tc)) = 0
format_of (Ok (Footage tc format)) = format_number format
format_of (Err e) = 0

-- a count at a rate as a label's answer, and as that of a footage, which carries the count together with the film format chosen
abbrev pub as_label : (rate : ℕ) → Result ℤ Refusal → Result Read Refusal
as_label rate (Ok z) = Ok (Label (timecode z rate))
as_label rate (Err e) = Err e

abbrev pub as_footage : (rate : ℕ) → FilmFormat → Result ℤ Refusal → Result Read Refusal
as_footage rate format (Ok z) = Ok (Footage (timecode z rate) format)
as_footage rate format (Err e) = Err e
