-- What a label that is kept gives, and that a text reads as its shape does, and as a length what it was (BEHAVIOUR: Text shapes, Positions).
-- Assumes nothing.
use Rattle.answers.specs.declared.Refusal.{Refusal}
use Rattle.std.specs.Prelude.{ℕ, ◌≡◌, refl, Bool, true, false, List, [], ◌∷◌, Option, Ok, Err, Result}
use Rattle.std.proofs.Common.{sym, ap, ◌∙◌}
use Rattle.answers.specs.OrderLaws.{unless-map}
use Rattle.answers.specs.Refusals.{is_count, bad_count, held}
use Rattle.answers.specs.Laws.{held_in}
use Rattle.rates.specs.Rates.{is_rate, drop_frames}
use Rattle.timecodes.specs.Timecode.{timecode}
use Rattle.film.specs.declared.FilmFormat.{FilmFormat}
use Rattle.labels.specs.Label.{dropped_in}
use Rattle.labels.specs.AtRate.{label_frames}
use Rattle.reading.specs.declared.Read.TheVariants.{Label, Footage}
use Rattle.reading.specs.Answer.{as_label}
use Rattle.reading.specs.Shaped.{is_stated, shape_of, format_for, Shaped, label, footage, refused}
use Rattle.reading.specs.Reading.{label_read, footage_frames, footage_read, read_shaped, read_text, label_read_when, footage_read_when}
use Rattle.answers.specs.Order.{unless}
use Rattle.timecodes.specs.declared.kinds.Kind.{Kind}
use Rattle.timecodes.specs.declared.kinds.Kind.TheVariants.{Length}
use Rattle.reading.specs.declared.Read.{Read}
use Rattle.reading.specs.ReadingLaws.{no_rate, no-format}
use Rattle.reading.specs.For.{settled_read, strict_when, shaped_for, read_by, read_for}
use Rattle.reading.specs.ForLaws.{for-no-rate, for-no-format, by-no-rate, by-no-format, by-shaped}

-- ---- a label
module _ (rate : ℕ) (minus : Bool) (fields : List ℕ) where
  -- a label that is kept is its count, held to the bounds
  pub label_kept : dropped_in (drop_frames rate) fields ≡ false → label_read rate minus fields ≡ as_label rate (held (label_frames rate minus fields))
  unfolding label_read held
  label_kept e =
      let z = label_frames rate minus fields in
      simp e (sym (unless-map (as_label rate) Err Err (λ f. refl) (bad_count z ∷ []) (Ok z)))

  -- and where that is within its bounds, it is read as it
  pub label-within :
      dropped_in (drop_frames rate) fields ≡ false → is_count (label_frames rate minus fields) ≡ true
      → label_read rate minus fields ≡ Ok (Label (timecode (label_frames rate minus fields) rate))
  label-within kept bounds = label_kept kept ∙ ap (as_label rate) (held_in (label_frames rate minus fields) bounds)

-- ---- a text
module _ (text : List ℕ) (stated : Option ℕ) (rate : ℕ) where
  pub read-shaped : is_rate rate ≡ true → is_stated stated ≡ true → read_text text stated rate ≡ read_shaped rate stated (shape_of stated text)
  unfolding read_text
  read-shaped r s = simp (r, s)

-- ---- by shape a length's reading is as it was
length_read : (rate : ℕ) (stated : Option ℕ) (x : Shaped) → shaped_for Length rate stated x ≡ read_shaped rate stated x
unfolding shaped_for label_read footage_read
length_read rate stated (label minus fields) =
    unless-map (settled_read Length) Err Err (λ e. refl) (label_read_when rate minus fields) (Ok (Label (timecode (label_frames rate minus fields) rate)))
length_read rate stated (footage minus feet frames perf marker) = settled-footage (format_for stated perf)
  where
    settled-footage : (format : FilmFormat) → settled_read Length (footage_read rate format minus feet frames perf marker) ≡ footage_read rate format minus feet frames perf marker
    settled-footage format =
        unless-map (settled_read Length) Err Err (λ e. refl) (footage_read_when format minus feet frames perf marker)
        (Ok (Footage (timecode (footage_frames format minus feet frames) rate) format))
length_read rate stated (refused e) = refl

-- ---- a text by kind
module _ (kind : Kind) (text : List ℕ) (stated : Option ℕ) (rate : ℕ) where
  pub for-shaped : is_rate rate ≡ true → is_stated stated ≡ true → read_for kind text stated rate ≡ shaped_for kind rate stated (shape_of stated text)
  unfolding read_for shaped_for
  for-shaped r s =
      let x = shape_of stated text in
      simp (r, s) (ap (λ (a : Result Read Refusal). unless Err (strict_when kind rate x) (settled_read kind a)) (read-shaped text stated rate r s))

-- a text reads as its shape does
pub read-by-shape : (kind : Kind) (text : List ℕ) (stated : Option ℕ) (rate : ℕ)
    → read_for kind text stated rate ≡ read_by kind stated rate (shape_of stated text)
read-by-shape kind text stated rate = by (is_rate rate) (is_stated stated) refl refl
  where
    by : (s t : Bool) → is_rate rate ≡ s → is_stated stated ≡ t → read_for kind text stated rate ≡ read_by kind stated rate (shape_of stated text)
    by false t r f = for-no-rate kind text stated rate r ∙ sym (by-no-rate kind stated rate (shape_of stated text) r)
    by true false r f = for-no-format kind text stated rate r f ∙ sym (by-no-format kind stated rate (shape_of stated text) r f)
    by true true r f = for-shaped kind text stated rate r f ∙ sym (by-shaped kind stated rate (shape_of stated text) r f)

-- a length's reading is as it was
pub read_length : (text : List ℕ) (stated : Option ℕ) (rate : ℕ) → read_for Length text stated rate ≡ read_text text stated rate
read_length text stated rate = by (is_rate rate) (is_stated stated) refl refl
  where
    by : (s t : Bool) → is_rate rate ≡ s → is_stated stated ≡ t → read_for Length text stated rate ≡ read_text text stated rate
    by false t r f = for-no-rate Length text stated rate r ∙ sym (no_rate text stated rate r)
    by true false r f = for-no-format Length text stated rate r f ∙ sym (no-format text stated rate r f)
    by true true r f =
        for-shaped Length text stated rate r f ∙ length_read rate stated (shape_of stated text) ∙ sym (read-shaped text stated rate r f)
