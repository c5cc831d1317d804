-- `runtime_reading::read_length` meets its contract: its test is the definition's, and then how the scan fits.
-- Assumes nothing.
use Rattle.std.specs.Prelude.{Result, Ok, Err}
use Rattle.std.proofs.lemmas.Bool.{not_from_false, not_from_true}
use mathlib.Core.Path.{◌≡◌, sym, ap, ◌∙◌}
use mathlib.Core.Bool.{true}
use Rattle.numbers.proofs.Tests.{fails, passes}
use Rattle.rates.specs.Rates.{is_rate}
use Rattle.timecodes.specs.Timecode.{placed}
use Rattle.scanner.specs.declared.text.Misfit.{Misfit}
use Rattle.runtime_scan.specs.declared.RuntimeScan.{RuntimeScan}
use Rattle.runtime_scan.specs.Statements.{RuntimeBounds}
use Rattle.runtime_scan.proofs.Statements.{runtime_bounded}
use Rattle.runtime_reading.specs.Reading.{time_in, read_scan, read_runtime}
use Rattle.runtime_reading.specs.ReadingLaws.{no_rate, read-scanned, time_read-held}
use Rattle.runtime_reading.proofs.read_length.Goals as goal
use Rattle.runtime_reading.proofs.read_length.Goals.{After-scan_runtime, Else-not-is_rate}

pub returns-then-not-is_rate : goal.returns-then-not-is_rate
returns-then-not-is_rate c =
    ap Err c.into.ensures
    ∙ (sym (no_rate c.args.text.now c.args.rate (fails c.is_rate.ensures (not_from_false _ c.if-not-is_rate.true))))

rated : (c : Else-not-is_rate) → is_rate c.args.rate ≡ true
rated c =
    passes c.is_rate.ensures (not_from_true _ c.if-not-is_rate.false)

-- the answer to the scan is that to the text
scanned-as : (c : After-scan_runtime) (v : Result RuntimeScan Misfit) → c.scan_runtime.result ≡ v → read_scan c.args.rate v ≡ read_runtime c.args.text.now c.args.rate
scanned-as c v e =
    sym (read-scanned c.args.text.now c.args.rate (passes c.is_rate.ensures (not_from_true _ c.if-not-is_rate.false))
    ∙ ap (read_scan c.args.rate) (sym c.scan_runtime.ensures ∙ e))

pub nearest_frame-counted-requires : goal.nearest_frame-counted-requires
nearest_frame-counted-requires c =
    record { rate = rated (goal.at.nearest_frame-counted-requires c).Else-not-is_rate; time = runtime_bounded c.args.text.now c.in-Ok.scan (sym c.scan_runtime.ensures ∙ c.in-Ok.is) }

pub returns-in-Ok : goal.returns-in-Ok
returns-in-Ok c =
    c.placed.ensures
    ∙ ap (placed c.args.rate) c.nearest_frame-counted.ensures
    ∙ sym (time_read-held c.args.rate c.in-Ok.scan.minus (time_in c.in-Ok.scan.fields c.in-Ok.scan.millionths))
    ∙ scanned-as (goal.at.returns-in-Ok c).After-scan_runtime _ c.in-Ok.is

pub returns-in-Err-TooLong : goal.returns-in-Err-TooLong
returns-in-Err-TooLong c =
    ap Err c.into-in-Err-TooLong.ensures
    ∙ scanned-as (goal.at.returns-in-Err-TooLong c).After-scan_runtime _ (c.in-Err-TooLong.is ∙ ap Err c.in-Err-TooLong.field-0-is)

pub returns-in-Err-NoShape : goal.returns-in-Err-NoShape
returns-in-Err-NoShape c =
    ap Err c.into-in-Err-NoShape.ensures
    ∙ scanned-as (goal.at.returns-in-Err-NoShape c).After-scan_runtime _ (c.in-Err-NoShape.is ∙ ap Err c.in-Err-NoShape.field-0-is)
