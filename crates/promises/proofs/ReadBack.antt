-- What is written is read back: a label's parts scan as the fields they were written from, and these count as the count; a footage is as it is written.
-- Assumes nothing.
use Rattle.std.specs.Prelude.{Option, Some, None, Ok}
use Prim.Native.Nat.{ℕ, ◌≤◌}
use mathlib.Core.Path.{◌≡◌, refl, sym, ap, ◌∙◌}
use mathlib.Core.Bool.{true}
use native.Mathlib.Omega.{arith}
use borrow.Author.Tests.{leb-true}
use lib.IntN.{ℤ, nat_abs}
use Rattle.numbers.specs.Sign.{is_neg}
use Rattle.numbers.specs.Sign as sign
use Rattle.numbers.specs.SignLaws.{signed_back}
use Rattle.answers.specs.Refusals.{most_count, is_count}
use Rattle.rates.specs.Rates.{is_rate, is_drop}
use Rattle.timecodes.specs.Timecode.{timecode}
use Rattle.film.specs.declared.FilmFormat.{FilmFormat}
use Rattle.film.specs.declared.FilmFormat.TheVariants.{FF35mm4perf, FF35mm3perf, FF35mm2perf, FF16mm}
use Rattle.film.specs.Film.{format_number, is_format}
use Rattle.film.specs.Footage.{footage_of}
use Rattle.film.specs.FormatLaws.{at-number}
use Rattle.labels.specs.Label.{hours_in, minutes_in, seconds_in, frames_in}
use Rattle.labels.specs.AtRate.{label_frames}
use Rattle.label_scan.specs.Label.{fitting_label, label_scan}
use Rattle.label_scan.proofs.Statements.{label_back}
use Rattle.footage_scan.specs.Shape.{has_perf}
use Rattle.reading.specs.declared.Read.TheVariants as read
use Rattle.reading.specs.Shaped.{format_from, format_for}
use Rattle.reading.specs.Reading.{read_text}
use Rattle.reading.proofs.ByShape.{label-within}
use Rattle.reading.specs.Statements.{RateAndFormat}
use Rattle.label_writer.specs.Sections.{label_fields}
use Rattle.label_writer.specs.LabelText.{frames_mark, label_text}
use Rattle.label_writer.proofs.Answers.{label_of, label_small, label-parts}
use Rattle.footage_writer.specs.FootageText.{footage_text}
use Rattle.promises.specs.ReadBack.{LabelsReadBack, FootageReadBack, UnstatedReadBack}
use Rattle.promises.proofs.Read.{sign-is, four-fields, read-label, mark-divides}
use Rattle.promises.proofs.WrittenFootage.{marker-there, parts_of}
use Rattle.promises.proofs.AsWritten.{read_as_written, itself}

-- ---- labels
-- the label of a count scans as its sign and fields
label-scan : (rate : ℕ) (count : ℤ) → is_rate rate ≡ true → is_count count ≡ true
    → label_scan (label_text rate count) ≡ Ok (fitting_label (is_neg count) (label_fields rate count))
label-scan rate count r c =
    let fields = label_fields rate count in
    let few : nat_abs count ≤ most_count = leb-true (nat_abs count) most_count c in
    let small = label_small rate count r in
    ap label_scan (label-parts rate count ∙ sign-is (is_neg count) _)
    ∙ label_back (is_neg count) (hours_in fields) (minutes_in fields) (seconds_in fields) (frames_in fields) 58 58 (frames_mark rate)
    (omega (arith, small.hours)) (omega (arith, small.minutes)) (omega (arith, small.seconds)) (omega (arith, small.frames))
    refl refl (mark-divides (is_drop rate))
    ∙ ap (λ l. Ok (fitting_label (is_neg count) l)) (sym (four-fields fields (label_of rate count r).strict.four))

pub labels_read_back : LabelsReadBack
labels_read_back rate count r c =
    let fields = label_fields rate count in
    let x = label_of rate count r in
    let same : label_frames rate (is_neg count) fields ≡ count =
    ap (sign.signed (is_neg count)) x.count ∙ signed_back count in
    read-label rate (label_text rate count) r (is_neg count) fields (label-scan rate count r c)
    ∙ label-within rate (is_neg count) fields x.allowed (ap is_count same ∙ c)
    ∙ ap (λ (z : ℤ). Ok (read.Label (timecode z rate))) same

-- ---- footage
-- a format's number is one of a format
numbered : (format : FilmFormat) → is_format (format_number format) ≡ true
unfolding is_format
numbered FF35mm4perf = refl
numbered FF35mm3perf = refl
numbered FF35mm2perf = refl
numbered FF16mm = refl

-- in a film format that is stated, or that its marker chooses
back : (format : FilmFormat) (rate : ℕ) (count : ℤ) → is_count count ≡ true → (stated : Option ℕ) → RateAndFormat stated rate
    → format_for stated (has_perf (parts_of format count).perf) ≡ format
    → read_text (footage_text format count) stated rate ≡ Ok (read.Footage (timecode count rate) format)
back format rate count c stated a chosen =
    (read_as_written (footage_text format count) stated rate format count a).1 (itself stated format count c chosen, c)

pub footage_read_back : FootageReadBack
footage_read_back format rate count r c =
    back format rate count c (Some (format_number format)) (record { rated = r; filmed = numbered format }) (ap format_from (at-number format))

pub unstated_read_back : UnstatedReadBack
unstated_read_back rate count r c =
    let a : RateAndFormat None rate = record { rated = r; filmed = refl } in (
      back FF35mm4perf rate count c None a refl,
      back FF35mm3perf rate count c None a (ap (format_for None) (marker-there (footage_of FF35mm3perf (nat_abs count)).perf)),
    )
