-- The shape that a text is read by, and the film format that is stated or chosen (BEHAVIOUR: Text shapes).
-- Assumes nothing.
use Rattle.std.specs.Prelude.{ℕ, max, Bool, true, false, not, List, Option, Some, None, Result, Ok, Err}
use Rattle.answers.specs.declared.Refusal.{Refusal}
use Rattle.answers.specs.Order.{Condition, when}
use Rattle.answers.specs.Refusals.{at_place, no_shape, too_long, no_such}
use Rattle.film.specs.declared.FilmFormat.{FilmFormat}
use Rattle.film.specs.declared.FilmFormat.TheVariants.{FF35mm4perf, FF35mm3perf}
use Rattle.film.specs.Film.{is_format, format_at}
use Rattle.scanner.specs.declared.text.Misfit.{Misfit}
use Rattle.scanner.specs.declared.text.Misfit.TheVariants.{TooLong, NoShape}
use Rattle.label_scan.specs.declared.LabelScan.{LabelScan}
use Rattle.label_scan.specs.Label.{label_scan}
use Rattle.footage_scan.specs.declared.FootageScan.{FootageScan}
use Rattle.footage_scan.specs.Footage.{footage_scan}

-- ---- the stated film format
-- none is stated, or a film format (1 to 4)
abbrev pub is_stated : Option ℕ → Bool
is_stated None = true
is_stated (Some n) = is_format n

-- 6: no such film format
abbrev pub bad_stated : Option ℕ → Condition
bad_stated stated = when no_such (not (is_stated stated))

-- the format of a number that has one (any other number is refused before)
abbrev pub format_from : Result FilmFormat Refusal → FilmFormat
format_from (Ok format) = format
format_from (Err e) = FF35mm4perf

-- the film format of a footage: the stated one; without one, perf present means 3-perf, absent means 4-perf
abbrev pub format_for : Option ℕ → (perf : Bool) → FilmFormat
format_for None true = FF35mm3perf
format_for None false = FF35mm4perf
format_for (Some n) perf = format_from (format_at n)

-- ---- the shape
-- 1 and 2, with the place that a scan says
abbrev pub refused_by : Misfit → Refusal
refused_by (TooLong place) = at_place too_long place
refused_by (NoShape stop) = at_place no_shape stop

-- a label's sign and fields, a footage's sign, fields, whether it has a perf field and its marker, or the refusal of a text that is neither
pub data Shaped : Type 0 where
  label : (minus : Bool) (fields : List ℕ) → Shaped
  footage : (minus : Bool) (feet frames : ℕ) (perf : Bool) (marker : ℕ) → Shaped
  refused : Refusal → Shaped

-- 1: no shape; 2: the shape fits, but a field is too long, the first such at the place that the scan says
abbrev pub by_scan : {A : Type 0} (taken : A → Shaped) (other : (stop : ℕ) → Shaped) → Result A Misfit → Shaped
by_scan taken other (Ok scan) = taken scan
by_scan taken other (Err (TooLong place)) = refused (at_place too_long place)
by_scan taken other (Err (NoShape stop)) = other stop

-- where neither scan goes on: this one stopped here, that of another shape that is allowed had stopped there (0, where none is)
abbrev pub farthest : (stopped stop : ℕ) → Shaped
farthest stopped stop = refused (at_place no_shape (max stopped stop))

abbrev pub footage_in : FootageScan → Shaped
footage_in s = footage s.minus s.feet s.frames s.perf s.marker

abbrev pub footage_shaped : (stopped : ℕ) → Result FootageScan Misfit → Shaped
footage_shaped stopped scanned = by_scan footage_in (farthest stopped) scanned

-- a label; where the text has not that shape, what else it is
abbrev pub label_in : LabelScan → Shaped
label_in s = label s.minus s.fields

abbrev pub label_or : (other : (stop : ℕ) → Shaped) → Result LabelScan Misfit → Shaped
label_or other scanned = by_scan label_in other scanned

-- the text reader takes a label or a footage, but with a stated film format only a footage
abbrev pub shape_of : Option ℕ → List ℕ → Shaped
shape_of None text = label_or (λ stop. footage_shaped stop (footage_scan text)) (label_scan text)
shape_of (Some n) text = footage_shaped 0 (footage_scan text)

-- where only a label may stand, a text that has not that shape has none
abbrev pub label_only : List ℕ → Shaped
label_only text = label_or (λ stop. refused (at_place no_shape stop)) (label_scan text)
