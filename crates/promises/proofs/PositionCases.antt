-- Each row of the worked cases of positions holds by computation.
-- Assumes nothing.
use mathlib.Core.Path.{refl}
use Rattle.numbers.specs.Nearest.{nearest_n}
use Rattle.digits.specs.Digits.{value_from, span, digits_of, width_by, width, decimal}
use Rattle.answers.specs.Refusals.{held}
use Rattle.rates.specs.Rates.{rates, is_rate, rate_row, drop_frames, is_drop}
use Rattle.film.specs.Film.{is_format, format_at}
use Rattle.film.specs.Footage.{footage_count, footage_of}
use Rattle.film.specs.OnFilm.{on_film}
use Rattle.labels.specs.Label.{label_count, is_dropped}
use Rattle.labels.specs.Sections.{fields_at, dropped_before, sections_of}
use Rattle.scanner.specs.Then.{field_then, byte_then}
use Rattle.scanner.specs.Scan.{sign_of, tail_of}
use Rattle.scanner.specs.Fields.{fields_in, fields_found}
use Rattle.scanner.specs.Text.{text_scan}
use Rattle.label_scan.specs.Label.{label_scan}
use Rattle.footage_scan.specs.Footage.{footage_scan}
use Rattle.reading.specs.Reading.{label_read, footage_read, read_text}
use Rattle.label_writer.specs.Sections.{label_fields, label_sections}
use Rattle.written.specs.Clock.{clock_text}
use Rattle.label_writer.specs.LabelText.{sections_text, label_text}
use Rattle.timecodes.specs.Instant.{instant}
use Rattle.arithmetic.specs.Sum.{joined}
use Rattle.chains.specs.Chain.{convert_of}
use Rattle.numbers.specs.Modulo.{reduced_z}
use Rattle.rates.specs.Day.{day_frames}
use Rattle.timecodes.specs.Made.{in_day}
use Rattle.timecodes.specs.Admitted.{is_of_day}
use Rattle.labels.specs.Label.{is_strict}
use Rattle.reading.specs.For.{shaped_for, read_for}
use Rattle.time.specs.Bounds.{is_fraction}
use Rattle.time.specs.Frames.{frames_at, ticks_at, seconds_at}
use Rattle.arithmetic.specs.Count.{neg_of, rebase_of}
use Rattle.arithmetic.specs.Compare.{order_of, compare_of}
use Rattle.promises.specs.PositionCases.{PositionCases}

pub position-cases : PositionCases
unfolding nearest_n value_from span digits_of width_by width decimal held rates is_rate rate_row
    drop_frames is_drop is_format format_at footage_count footage_of on_film label_count is_dropped fields_at dropped_before sections_of
    field_then byte_then sign_of tail_of fields_in fields_found text_scan label_scan footage_scan label_read footage_read read_text label_fields
    label_sections clock_text sections_text label_text instant joined convert_of reduced_z day_frames in_day is_of_day is_strict shaped_for read_for
    is_fraction frames_at ticks_at seconds_at neg_of rebase_of order_of compare_of
position-cases = (
  ((refl, refl), ((refl, refl), ((refl, refl), ((refl, refl), ((refl, refl), ((refl, refl), ((refl, refl), ((refl, refl), ((refl, refl), ((refl, refl), ((refl, refl), ((refl, refl), ((refl, refl), ((refl, refl), (refl, tt))))))))))))))),
  (refl, (refl, (refl, (refl, (refl, (refl, (refl, (refl, tt)))))))),
  (refl, (refl, (refl, (refl, (refl, (refl, (refl, (refl, (refl, (refl, (refl, (refl, (refl, (refl, (refl, (refl, (refl, tt))))))))))))))))),
)
