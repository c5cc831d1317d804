-- Footage (BEHAVIOUR: Text shapes): what any text gives. What that comes to is said in Statements.antt.
-- Assumes nothing.
use Rattle.std.specs.Prelude.{ℕ, List, Bool, ltb, get_or, Result}
use Rattle.scanner.specs.declared.text.Misfit.{Misfit}
use Rattle.scanner.specs.declared.text.TextScan.{TextScan}
use Rattle.scanner.specs.Text.{named, text_scan}
use Rattle.footage_scan.specs.declared.FootageScan.{FootageScan}
use Rattle.footage_scan.specs.Shape.{footage_grammar}

-- a footage, with its sign, feet and frames, whether it has a perf field, and that field's value (0 where it has none)
abbrev pub fitting_footage : (minus : Bool) (feet frames : ℕ) (perf : Bool) (marker : ℕ) → FootageScan
fitting_footage minus feet frames perf marker =
    record { minus = minus; feet = feet; frames = frames; perf = perf; marker = marker }

-- right-justified in four places, the last two fields are feet and frames; the tail is the perf field
abbrev pub footage_from : TextScan → FootageScan
footage_from scan =
    record {
      minus = scan.minus;
      feet = get_or scan.fields 2 0;
      frames = get_or scan.fields 3 0;
      perf = ltb 0 scan.digits;
      marker = scan.tail;
    }

unfoldable pub footage_scan : List ℕ → Result FootageScan Misfit
footage_scan l = named footage_from (text_scan footage_grammar l)
