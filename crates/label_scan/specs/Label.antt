-- Label (BEHAVIOUR: Text shapes): what any text gives. What that comes to is said in Statements.antt.
-- Assumes nothing.
use Rattle.std.specs.Prelude.{ℕ, List, Bool, Result}
use Rattle.scanner.specs.declared.text.Misfit.{Misfit}
use Rattle.scanner.specs.declared.text.TextScan.{TextScan}
use Rattle.scanner.specs.Text.{named, text_scan}
use Rattle.label_scan.specs.declared.LabelScan.{LabelScan}
use Rattle.label_scan.specs.Shape.{label_grammar}

-- a label, with its sign and four fields
abbrev pub fitting_label : (minus : Bool) (fields : List ℕ) → LabelScan
fitting_label minus fields = record { minus = minus; fields = fields }

-- the last field is frames, then leftward seconds, minutes, hours
abbrev pub label_from : TextScan → LabelScan
label_from scan = record { minus = scan.minus; fields = scan.fields }

unfoldable pub label_scan : List ℕ → Result LabelScan Misfit
label_scan l = named label_from (text_scan label_grammar l)
