-- Writing footage (BEHAVIOUR: Footage): the text of a count in a film format, and when there is none.
-- Assumes nothing.
use Rattle.std.specs.Prelude.{ℕ, Bool, List, [], ◌∷◌, ◌++◌, ℤ, nat_abs}
use Rattle.numbers.specs.Sign.{is_neg}
use Rattle.answers.specs.Order.{Condition, unless}
use Rattle.timecodes.specs.declared.Timecode.{Timecode}
use Rattle.timecodes.specs.Admitted.{admits}
use Rattle.film.specs.declared.FilmFormat.{FilmFormat}
use Rattle.film.specs.declared.FilmFormat.TheVariants.{FF35mm4perf, FF35mm3perf, FF35mm2perf, FF16mm}
use Rattle.film.specs.declared.Footage.{Footage}
use Rattle.film.specs.Film.{bad_format, format_in}
use Rattle.film.specs.Footage.{footage_of}
use Rattle.digits.specs.Digits.{decimal}
use Rattle.written.specs.Written.{Draft, Text, NoText}
use Rattle.written.specs.Parts.{signed_text, field_text}

-- 3-perf adds `.` and feet modulo 3
abbrev pub perf_text : FilmFormat → (perf : ℕ) → List ℕ
perf_text FF35mm4perf perf = []
perf_text FF35mm3perf perf = 46 ∷ decimal 1 perf
perf_text FF35mm2perf perf = []
perf_text FF16mm perf = []

-- feet, unpadded, the sign in front; `+`; frames, two digits at least
unfoldable pub feet_text : (minus : Bool) → FilmFormat → Footage → List ℕ
feet_text minus format footage =
    signed_text minus footage.feet ++ (field_text 43 footage.frames ++ perf_text format footage.perf)

-- the footage of the absolute count, `-` in front if the count is below 0
unfoldable pub footage_text : FilmFormat → (count : ℤ) → List ℕ
footage_text format count = feet_text (is_neg count) format (footage_of format (nat_abs count))

-- what leaves no text: 6, no such film format; 6, no such rate; then 5, a count out of its bounds
abbrev pub footage_when : Timecode → (format : ℕ) → List Condition
footage_when tc format = bad_format format ∷ admits tc

unfoldable pub footage_draft : Timecode → (format : ℕ) → Draft
footage_draft tc format = unless NoText (footage_when tc format) (Text (footage_text (format_in format) tc.count))
