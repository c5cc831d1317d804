-- Each row of the worked cases of why a text was turned down holds by computation.
-- Assumes nothing.
use mathlib.Core.Path.{refl}
use Rattle.digits.specs.Digits.{value_from, span}
use Rattle.faults.specs.Faults.{under, exactly, count_fault}
use Rattle.answers.specs.Refusals.{held}
use Rattle.rates.specs.Rates.{rates, is_rate, rate_row, drop_frames, is_drop}
use Rattle.rates.specs.Day.{day_frames}
use Rattle.film.specs.Film.{is_format, format_at}
use Rattle.film.specs.Footage.{footage_count, footage_or}
use Rattle.film.specs.OnFilm.{on_film}
use Rattle.film.specs.Faults.{marker_fault, film_fault}
use Rattle.labels.specs.Label.{label_count, is_dropped, is_strict, is_short}
use Rattle.labels.specs.AtRate.{frames_or}
use Rattle.labels.specs.Faults.{strict_fault}
use Rattle.scanner.specs.Then.{field_then, byte_then}
use Rattle.scanner.specs.Scan.{sign_of, tail_of}
use Rattle.scanner.specs.Fields.{fields_in, fields_found}
use Rattle.scanner.specs.Text.{text_scan}
use Rattle.label_scan.specs.Label.{label_scan}
use Rattle.footage_scan.specs.Footage.{footage_scan}
use Rattle.timecodes.specs.Made.{in_day}
use Rattle.numbers.specs.Modulo.{reduced_z}
use Rattle.reading.specs.Reading.{label_read, footage_read, read_text}
use Rattle.reading.specs.For.{position_fault, shaped_for, read_for}
use Rattle.phrases.specs.Phrases.{phrases, phrase_of}
use Rattle.reasons.specs.Facts.{first_label, label_fact, footage_fact}
use Rattle.reasons.specs.Why.{fact_of}
use Rattle.promises.specs.WhyCases.{WhyCases}

pub why_cases : WhyCases
unfolding value_from span under exactly count_fault held rates is_rate rate_row drop_frames is_drop day_frames is_format format_at footage_count footage_or on_film
    marker_fault film_fault label_count is_dropped is_strict is_short frames_or strict_fault field_then byte_then sign_of tail_of fields_in fields_found text_scan
    label_scan footage_scan in_day reduced_z label_read footage_read read_text position_fault shaped_for read_for phrases phrase_of first_label label_fact
    footage_fact fact_of
why_cases = (
  ((refl, refl, refl, refl), ((refl, refl, refl, refl), ((refl, refl, refl, refl), ((refl, refl, refl, refl), ((refl, refl, refl, refl), ((refl, refl, refl, refl), ((refl, refl, refl, refl), ((refl, refl, refl, refl), ((refl, refl, refl, refl), ((refl, refl, refl, refl), ((refl, refl, refl, refl), tt))))))))))),
  ((refl, refl, refl, refl), ((refl, refl, refl, refl), ((refl, refl, refl, refl), ((refl, refl, refl, refl), ((refl, refl, refl, refl), ((refl, refl, refl, refl), ((refl, refl, refl, refl), ((refl, refl, refl, refl), ((refl, refl, refl, refl), ((refl, refl, refl, refl), ((refl, refl, refl, refl), ((refl, refl, refl, refl), ((refl, refl, refl, refl), tt))))))))))))),
  ((refl, refl, refl, refl), ((refl, refl, refl, refl), ((refl, refl, refl, refl), ((refl, refl, refl, refl), ((refl, refl, refl, refl), ((refl, refl, refl, refl), ((refl, refl, refl, refl), ((refl, refl, refl, refl), tt)))))))),
)
