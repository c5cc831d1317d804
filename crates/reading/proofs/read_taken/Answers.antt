-- `reading::read_taken` meets its contract: its tests are the definition's, in its order, and then what was taken.
-- Assumes nothing.
use Rattle.std.specs.Prelude.{Ok, Err}
use Rattle.answers.specs.declared.Refusal.{Refusal}
use Rattle.std.specs.Prelude.{Result}
use Rattle.std.proofs.lemmas.Result.{err_from_is_err_and}
use Rattle.std.proofs.lemmas.Bool.{not_from_false, not_from_true}
use mathlib.Core.Path.{◌≡◌, sym, ap, ◌∙◌}
use mathlib.Core.Bool.{true}
use Rattle.numbers.proofs.Tests.{fails, passes}
use Rattle.rates.specs.Rates.{is_rate}
use Rattle.film.specs.declared.FilmFormat.{FilmFormat}
use Rattle.reading.specs.declared.taking.Taken.{Taken}
use Rattle.reading.specs.Shaped.{is_stated}
use Rattle.reading.specs.Taken.{shaped_in}
use Rattle.reading.specs.Reading.{footage_read}
use Rattle.reading.specs.For.{settled_read, shaped_for, read_by}
use Rattle.reading.specs.ForLaws.{by-no-rate, by-no-format, by-shaped, footage-for, refused-for}
use Rattle.reading.proofs.read_taken.Goals as goal
use Rattle.reading.proofs.read_taken.Goals.{Else-not-is_rate, Else-not-is_stated}

pub returns-then-not-is_rate : goal.returns-then-not-is_rate
returns-then-not-is_rate c =
    ap Err c.into.ensures
    ∙ (sym (by-no-rate c.args.kind c.args.stated c.args.rate (shaped_in c.args.taken) (fails c.is_rate.ensures (not_from_false _ c.if-not-is_rate.true))))

rated : (c : Else-not-is_rate) → is_rate c.args.rate ≡ true
rated c =
    passes c.is_rate.ensures (not_from_true _ c.if-not-is_rate.false)

pub returns-then-not-is_stated : goal.returns-then-not-is_stated
returns-then-not-is_stated c =
    ap Err c.into-then-not-is_stated.ensures
    ∙ (sym (by-no-format c.args.kind c.args.stated c.args.rate (shaped_in c.args.taken) (rated (goal.at.returns-then-not-is_stated c).Else-not-is_rate) (fails c.is_stated.ensures (not_from_false _ c.if-not-is_stated.true))))

allowed : (c : Else-not-is_stated) → is_stated c.args.stated ≡ true
allowed c =
    passes c.is_stated.ensures (not_from_true _ c.if-not-is_stated.false)

-- behind both tests it is what was taken, read by its shape
taken_as : (c : Else-not-is_stated) (t : Result Taken Refusal)
    → (c.args.taken ≡ t → shaped_for c.args.kind c.args.rate c.args.stated (shaped_in t) ≡ read_by c.args.kind c.args.stated c.args.rate (shaped_in c.args.taken))
taken_as c t e =
    sym (ap (λ (x : Result Taken Refusal). read_by c.args.kind c.args.stated c.args.rate (shaped_in x)) e
    ∙ by-shaped c.args.kind c.args.stated c.args.rate (shaped_in t) ((passes c.is_rate.ensures (not_from_true _ c.if-not-is_rate.false))) (allowed c))

pub label_for-requires : goal.label_for-requires
label_for-requires c =
    rated (goal.at.label_for-requires c).Else-not-is_rate

pub returns-in-Label : goal.returns-in-Label
unfolding shaped_for
returns-in-Label c =
    c.label_for.ensures ∙ taken_as (goal.at.returns-in-Label c).Else-not-is_stated _ (c.in_ok-scan.was ∙ ap Ok c.in-Label.is)

pub returns-in-Footage : goal.returns-in-Footage
returns-in-Footage c =
    c.settled.ensures
    ∙ ap (settled_read c.args.kind)
    (c.read_footage.ensures
    ∙ ap (λ (format : FilmFormat). footage_read c.args.rate format c.in-Footage.scan.minus c.in-Footage.scan.feet c.in-Footage.scan.frames c.in-Footage.scan.perf c.in-Footage.scan.marker) c.format_for-format.ensures)
    ∙ sym (footage-for c.args.kind c.args.rate c.args.stated _ _ _ _ _)
    ∙ taken_as (goal.at.returns-in-Footage c).Else-not-is_stated _ (c.in_ok-scan.was ∙ ap Ok c.in-Footage.is)

pub returns-in_err-scan : goal.returns-in_err-scan
returns-in_err-scan c =
    let p = err_from_is_err_and c.from_residual.result c.from_residual.ensures.1 in
    p.1 ∙ ap Err p.2 ∙ sym (refused-for c.args.kind c.args.rate c.args.stated _) ∙ taken_as (goal.at.returns-in_err-scan c).Else-not-is_stated _ c.in_err-scan.was
