-- Runtime (BEHAVIOUR: Text shapes): what any text gives. What that comes to is said in Statements.antt.
-- Assumes nothing.
use Rattle.std.specs.Prelude.{ℕ, List, Bool, Result}
use Rattle.scanner.specs.declared.text.Misfit.{Misfit}
use Rattle.scanner.specs.declared.text.TextScan.{TextScan}
use Rattle.scanner.specs.Text.{named, text_scan}
use Rattle.runtime_scan.specs.declared.RuntimeScan.{RuntimeScan}
use Rattle.runtime_scan.specs.Shape.{runtime_grammar, in_millionths}

-- a runtime, with its sign, its fields and its fraction
abbrev pub fitting_runtime : (minus : Bool) (fields : List ℕ) (millionths : ℕ) → RuntimeScan
fitting_runtime minus fields millionths = record { minus = minus; fields = fields; millionths = millionths }

-- the last field is seconds, then leftward minutes, hours; the first of the four places stays 0
abbrev pub runtime_from : TextScan → RuntimeScan
runtime_from scan = record { minus = scan.minus; fields = scan.fields; millionths = in_millionths scan.tail scan.digits }

unfoldable pub runtime_scan : List ℕ → Result RuntimeScan Misfit
runtime_scan l = named runtime_from (text_scan runtime_grammar l)
