-- What a text's shape and its fault give: the answer of each case.
-- Assumes nothing.
use Rattle.std.specs.Prelude.{Option, None, Err}
use Prim.Native.Nat.{ℕ}
use mathlib.Core.Path.{◌≡◌, refl, ap, ◌∙◌}
use mathlib.Core.List.{List}
use mathlib.Core.Bool.{Bool, true, false}
use lib.IntN.{ℤ}
use Rattle.digits.specs.Digits.{value_of}
use Rattle.answers.specs.Refusals.{at_place, no_shape, too_long, dropped_label, no_perf_field, not_on_film, held}
use Rattle.film.specs.declared.FilmFormat.{FilmFormat}
use Rattle.film.specs.Statements.{OffFilm}
use Rattle.film.proofs.Statements.{on_film_exactly, off_film_exactly}
use Rattle.footage_scan.specs.Shape.{FootageParts, has_perf}
use Rattle.reading.specs.Answer.{as_label, as_footage}
use Rattle.reading.specs.Shaped.{format_for, Shaped, shape_of}
use Rattle.reading.specs.Reading.{label_read, takes_perf, footage_read, read_shaped, read_text}
use Rattle.reading.specs.ReadingLaws.{label-dropped, footage-marked, footage-off, footage-on}
use Rattle.reading.proofs.ByShape.{label_kept, read-shaped}
use Rattle.reading.specs.Statements.{RateAndFormat, HasShape, FootageText, PerfRefused, InFormat, FilmRefused, LabelText, DroppedText, LabelCount, FootageCount}
use Rattle.reading.proofs.Shapes.{shape-label, shape-footage, shape-long, long-place}
use Rattle.reading.proofs.FourKinds.{shape-none}

module _ (l : List ℕ) (stated : Option ℕ) (rate : ℕ) (a : RateAndFormat stated rate) where
  by_shape : (x : Shaped) → shape_of stated l ≡ x → read_text l stated rate ≡ read_shaped rate stated x
  by_shape x e = read-shaped l stated rate a.rated a.filmed ∙ ap (read_shaped rate stated) e

  pub gives_none : ((t : Bool) → ¬ HasShape stated l t) → (place : ℕ) × (read_text l stated rate ≡ Err (at_place no_shape place))
  gives_none h = let s = shape-none stated l h in (s.0, by_shape _ s.1)

  pub gives-long : HasShape stated l true → (place : ℕ) × (read_text l stated rate ≡ Err (at_place too_long place))
  gives-long h = let s = long-place stated l h in (s.0, by_shape _ (shape-long stated l s.0 s.1))

  -- ---- a label
  pub gives-label : stated ≡ None → (m : Bool) (fields : List ℕ) → LabelText l m fields → read_text l stated rate ≡ label_read rate m fields
  gives-label u m fields t = by_shape _ (ap (λ (s : Option ℕ). shape_of s l) u ∙ shape-label l m fields t)

  pub gives-dropped : stated ≡ None → DroppedText l rate → read_text l stated rate ≡ Err dropped_label
  gives-dropped u d = gives-label u d.minus d.fields d.text ∙ label-dropped rate d.minus d.fields d.dropped

  pub gives-label-count : (z : ℤ) → LabelCount l stated rate z → read_text l stated rate ≡ as_label rate (held z)
  gives-label-count z x =
      gives-label x.unstated x.minus x.fields x.text
      ∙ label_kept rate x.minus x.fields x.kept
      ∙ ap (λ (y : ℤ). as_label rate (held y)) x.count

  -- ---- a footage
  module _ (p : FootageParts) (t : FootageText l p) where
    abbrev perf : Bool
    perf = has_perf p.perf

    gives-footage : (format : FilmFormat) → format_for stated perf ≡ format
        → read_text l stated rate ≡ footage_read rate format p.minus (value_of p.feet) (value_of p.frames) perf (value_of p.perf)
    gives-footage format chosen =
        by_shape _ (shape-footage stated l p t)
        ∙ ap (λ (f : FilmFormat). footage_read rate f p.minus (value_of p.feet) (value_of p.frames) perf (value_of p.perf)) chosen

    -- a perf field that the format has not
    gives-marked : takes_perf (format_for stated perf) perf ≡ false → read_text l stated rate ≡ Err no_perf_field
    gives-marked e =
        gives-footage (format_for stated perf) refl
        ∙ footage-marked rate (format_for stated perf) p.minus (value_of p.feet) (value_of p.frames) perf (value_of p.perf) e

    -- one that cannot be on the film
    gives-off : (format : FilmFormat) → InFormat stated p format
        → OffFilm format (value_of p.feet) (value_of p.frames) perf (value_of p.perf) → read_text l stated rate ≡ Err not_on_film
    gives-off format i off =
        gives-footage format i.chosen
        ∙ footage-off rate format p.minus (value_of p.feet) (value_of p.frames) perf (value_of p.perf) i.takes
        ((off_film_exactly format (value_of p.feet) (value_of p.frames) perf (value_of p.perf)).1 off)

  pub gives-no-perf : PerfRefused l stated → read_text l stated rate ≡ Err no_perf_field
  gives-no-perf x =
      gives-marked x.parts x.text (ap (λ (b : Bool). takes_perf (format_for stated b) b) x.present ∙ x.none)

  pub gives-not-on-film : FilmRefused l stated → read_text l stated rate ≡ Err not_on_film
  gives-not-on-film x = gives-off x.parts x.text x.format x.in-format x.off

  pub gives-footage-count : (format : FilmFormat) (z : ℤ) → FootageCount l stated format z → read_text l stated rate ≡ as_footage rate format (held z)
  gives-footage-count format z x =
      let p = x.parts in
      let perf = has_perf p.perf in
      gives-footage p x.text format x.in-format.chosen
      ∙ footage-on rate format p.minus (value_of p.feet) (value_of p.frames) perf (value_of p.perf) x.in-format.takes
      ((on_film_exactly format (value_of p.feet) (value_of p.frames) perf (value_of p.perf)).1 x.on)
      ∙ ap (λ (y : ℤ). as_footage rate format (held y)) x.count
