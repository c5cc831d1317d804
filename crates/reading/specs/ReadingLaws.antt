-- Laws of reading that callers cite (BEHAVIOUR: Text shapes): what a label and a footage give, condition by condition. What a kept label and a shape give: proofs/ByShape.antt.
-- Assumes nothing.
use Rattle.std.specs.Prelude.{ℕ, ◌≡◌, refl, Bool, true, false, List, [], ◌∷◌, Option, Ok, Err}
use Rattle.std.proofs.Common.{sym}
use Rattle.answers.specs.OrderLaws.{unless-map}
use Rattle.answers.specs.Refusals.{dropped_label, no_perf_field, no_such, not_on_film, bad_count, held}
use Rattle.rates.specs.Rates.{is_rate, drop_frames}
use Rattle.film.specs.declared.FilmFormat.{FilmFormat}
use Rattle.film.specs.OnFilm.{on_film}
use Rattle.labels.specs.Label.{dropped_in}
use Rattle.reading.specs.Answer.{as_footage}
use Rattle.reading.specs.Shaped.{is_stated}
use Rattle.reading.specs.Reading.{label_read, takes_perf, footage_frames, footage_read, read_text}

-- ---- a label
module _ (rate : ℕ) (minus : Bool) (fields : List ℕ) where
  pub label-dropped : dropped_in (drop_frames rate) fields ≡ true → label_read rate minus fields ≡ Err dropped_label
  unfolding label_read
  label-dropped e = simp e

-- ---- a footage
module _ (rate : ℕ) (format : FilmFormat) (minus : Bool) (feet frames : ℕ) (perf : Bool) (marker : ℕ) where
  pub footage-marked : takes_perf format perf ≡ false → footage_read rate format minus feet frames perf marker ≡ Err no_perf_field
  unfolding footage_read
  footage-marked e = simp e

  pub footage-off : takes_perf format perf ≡ true → on_film format feet frames perf marker ≡ false
      → footage_read rate format minus feet frames perf marker ≡ Err not_on_film
  unfolding footage_read
  footage-off e f = simp (e, f)

  -- a footage that can be on the film is its count, held to the bounds
  pub footage-on : takes_perf format perf ≡ true → on_film format feet frames perf marker ≡ true
      → footage_read rate format minus feet frames perf marker ≡ as_footage rate format (held (footage_frames format minus feet frames))
  unfolding footage_read held
  footage-on e f =
      let z = footage_frames format minus feet frames in
      simp (e, f) (sym (unless-map (as_footage rate format) Err Err (λ r. refl) (bad_count z ∷ []) (Ok z)))

-- ---- a text
module _ (text : List ℕ) (stated : Option ℕ) (rate : ℕ) where
  pub no_rate : is_rate rate ≡ false → read_text text stated rate ≡ Err no_such
  unfolding read_text
  no_rate e = simp e

  pub no-format : is_rate rate ≡ true → is_stated stated ≡ false → read_text text stated rate ≡ Err no_such
  unfolding read_text
  no-format r s = simp (r, s)
