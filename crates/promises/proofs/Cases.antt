-- Each row of the starred cases holds by computation; where no rate is named, once the rate is taken for one.
-- Assumes nothing.
use mathlib.Core.Path.{refl}
use lib.ListN.{drop}
use Rattle.numbers.specs.Nearest.{nearest_n}
use Rattle.digits.specs.Digits.{value_from, span, digits_of, width_by, width, decimal}
use Rattle.answers.specs.Refusals.{held}
use Rattle.rates.specs.Rates.{rates, is_rate, rate_row, drop_frames, is_drop}
use Rattle.film.specs.Film.{is_format, format_at}
use Rattle.film.specs.Footage.{footage_count, footage_of}
use Rattle.film.specs.OnFilm.{on_film}
use Rattle.labels.specs.Label.{label_count, is_dropped}
use Rattle.labels.specs.Sections.{fields_at, dropped_before, sections_of}
use Rattle.scanner.specs.Then.{field_then, byte_then}
use Rattle.scanner.specs.Scan.{sign_of, tail_of}
use Rattle.scanner.specs.Fields.{fields_in, fields_found}
use Rattle.scanner.specs.Text.{text_scan}
use Rattle.label_scan.specs.Label.{label_scan}
use Rattle.footage_scan.specs.Footage.{footage_scan}
use Rattle.reading.specs.Reading.{label_read, footage_read, read_text}
use Rattle.label_writer.specs.Sections.{label_fields, label_sections}
use Rattle.written.specs.Clock.{clock_text}
use Rattle.label_writer.specs.LabelText.{sections_text, label_text}
use Rattle.footage_writer.specs.FootageText.{feet_text, footage_text}
use Rattle.time.specs.Bounds.{is_fraction}
use Rattle.timecodes.specs.Instant.{instant}
use Rattle.arithmetic.specs.Sum.{joined}
use Rattle.arithmetic.specs.Truncating.{div_of}
use Rattle.arithmetic.specs.Flooring.{divq_of}
use Rattle.chains.specs.Chain.{convert_of}
use Rattle.low_bytes.specs.LowBytes.{worth, signed_of, low_bytes, twos_of}
use Rattle.shot_lists.specs.Records.{faults}
use Rattle.shot_lists.specs.Entries.{body_fixed, of_kind, entry_of}
use Rattle.shot_lists.specs.Reading.{read_from}
use Rattle.shot_writer.specs.ListText.{record_bytes, list_bytes}
use Rattle.promises.specs.Cases.{All, cases, StarredCases}

pub starred_cases : StarredCases
unfolding nearest_n value_from span digits_of width_by width decimal held rates is_rate rate_row
    drop_frames is_drop is_format format_at footage_count footage_of on_film label_count is_dropped fields_at dropped_before sections_of
    field_then byte_then sign_of tail_of fields_in fields_found text_scan label_scan footage_scan label_read footage_read read_text label_fields
    label_sections clock_text sections_text label_text feet_text footage_text is_fraction instant joined div_of divq_of convert_of
    worth signed_of low_bytes twos_of body_fixed of_kind faults entry_of read_from record_bytes list_bytes
starred_cases =
    let of-lists : All (drop 31 cases) =
    ((refl, refl), (refl, ((refl, refl), ((refl, refl), ((refl, refl), ((refl, refl), ((refl, refl), ((refl, refl), ((refl, refl), ((refl, refl), tt)))))))))) in
    let of-film : All (drop 20 cases) =
    (λ rate r. simp r, (λ rate r. simp r, ((refl, refl), ((refl, refl), ((refl, refl), ((refl, refl), ((refl, refl), (λ rate r. simp r, (λ rate r. simp r, ((refl, refl), ((refl, refl), of-lists))))))))))) in
    let behind-labels : All (drop 9 cases) =
    ((refl, λ rate r. simp r), ((refl, λ rate r. simp r), (λ rate r. simp r, (λ rate r. simp r, (refl, (refl, ((refl, refl), ((refl, refl), ((refl, refl), ((refl, refl), ((refl, refl), of-film))))))))))) in
    ((refl, refl), ((refl, refl), (refl, ((refl, refl), ((refl, refl), ((refl, refl), ((refl, refl), ((refl, refl), (refl, behind-labels)))))))))
