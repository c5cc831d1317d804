-- Each row of the worked cases of the router holds by computation.
-- Assumes nothing.
use mathlib.Core.Path.{refl}
use Rattle.digits.specs.Digits.{value_from, span}
use Rattle.answers.specs.Refusals.{held}
use Rattle.rates.specs.Rates.{rates, is_rate, rate_row, drop_frames, is_drop}
use Rattle.rates.specs.Day.{day_frames}
use Rattle.labels.specs.Label.{label_count, is_dropped, is_strict, is_short}
use Rattle.labels.specs.AtRate.{frames_or}
use Rattle.scanner.specs.Then.{field_then, byte_then}
use Rattle.scanner.specs.Scan.{sign_of, tail_of}
use Rattle.scanner.specs.Fields.{fields_in, fields_found}
use Rattle.scanner.specs.Text.{text_scan}
use Rattle.label_scan.specs.Label.{label_scan}
use Rattle.timecodes.specs.Made.{in_day}
use Rattle.numbers.specs.Modulo.{reduced_z}
use Rattle.reading.specs.Reading.{label_read}
use Rattle.reading.specs.For.{shaped_for, read_by, label_for}
use Rattle.router.specs.Directory.{in_order, is_directory}
use Rattle.router.specs.Query.{range_at, range_of}
use Rattle.router.specs.Route.{first_asked, after_asked, asked_span, route_of}
use Rattle.promises.specs.RouteCases.{RouteCases}

pub route_cases : RouteCases
unfolding value_from span held rates is_rate rate_row drop_frames is_drop day_frames label_count is_dropped is_strict is_short frames_or field_then byte_then sign_of
    tail_of fields_in fields_found text_scan label_scan in_day reduced_z label_read shaped_for read_by label_for in_order is_directory range_at range_of first_asked
    after_asked asked_span route_of
route_cases = (
  (refl, (refl, (refl, (refl, (refl, (refl, (refl, (refl, (refl, (refl, (refl, (refl, tt)))))))))))),
  (refl, (refl, (refl, (refl, (refl, (refl, (refl, (refl, (refl, (refl, (refl, (refl, (refl, (refl, (refl, (refl, (refl, (refl, tt)))))))))))))))))),
  (refl, (refl, tt)),
)
