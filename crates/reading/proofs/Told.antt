-- What an answer tells of the text: each refusal's number its cause, and each count its label or its footage.
-- Assumes nothing.
use Rattle.answers.specs.declared.Refusal.{Refusal}
use Rattle.std.specs.Prelude.{Option, None, Ok, Err, Result}
use Prim.Native.Nat.{ℕ, zero, suc, ◌<◌}
use native.Mathlib.Omega.{arith}
use mathlib.Core.Path.{◌≡◌, refl, sym, ap, ◌∙◌, subst}
use mathlib.Core.Logic.{◌⊎◌, inl, inr}
use mathlib.Core.List.{List}
use mathlib.Core.Bool.{Bool, true, false}
use lib.Dec.{eqb}
use lib.IntN.{ℤ}
use Rattle.beginnings.specs.Beginning.{LongestBeginning}
use Rattle.digits.specs.Digits.{value_of}
use Rattle.answers.specs.Causes.{refusal_number}
use Rattle.answers.specs.Refusals.{is_count, held}
use Rattle.answers.specs.Laws.{held_in, held_out}
use Rattle.rates.specs.Rates.{is_rate, drop_frames}
use Rattle.timecodes.specs.Timecode.{timecode}
use Rattle.film.specs.declared.FilmFormat.{FilmFormat}
use Rattle.film.specs.Film.{allows_perf_field}
use Rattle.film.specs.OnFilm.{on_film}
use Rattle.film.proofs.Statements.{on_film_exactly, off_film_exactly}
use Rattle.labels.specs.Label.{dropped_in}
use Rattle.labels.specs.AtRate.{label_frames}
use Rattle.footage_scan.specs.Shape.{FootageParts, has_perf}
use Rattle.reading.specs.declared.Read.{Read}
use Rattle.reading.specs.declared.Read.TheVariants.{Label, Footage}
use Rattle.reading.specs.Answer.{number_of, place_of, as_label, as_footage}
use Rattle.reading.specs.Shaped.{is_stated, format_for, Shaped, shape_of}
use Rattle.reading.specs.Reading.{label_read, takes_perf, footage_frames, footage_read, read_shaped, read_text}
use Rattle.reading.specs.ReadingLaws.{label-dropped, footage-marked, footage-off, footage-on, no_rate, no-format}
use Rattle.reading.proofs.ByShape.{label_kept, read-shaped}
use Rattle.reading.specs.Statements.{HasShape, AllowedShape, LongShape, FootageText, PerfRefused, FilmRefused, LabelText, DroppedText, LabelCount, FootageCount, CountOut}
use Rattle.reading.proofs.FourKinds.{Kind, none, long, labelled, filmed, kind}

module _ (l : List ℕ) (stated : Option ℕ) (rate : ℕ) where
  -- what a number behind 5 tells: 6 or 13, and no other is given
  abbrev pub Behind : (six thirteen : Bool) (place : ℕ) → Type 0
  Behind true thirteen place = ((is_rate rate ≡ false) ⊎ (is_stated stated ≡ false)) × (place ≡ 0)
  Behind false true place = FilmRefused l stated × (place ≡ 0)
  Behind false false place = ⊥

  -- what each number and its place tell
  abbrev pub Cause : (number place : ℕ) → Type 0
  Cause zero place = ⊥
  Cause (suc zero) place = ((t : Bool) → ¬ HasShape stated l t) × LongestBeginning (AllowedShape stated) l place
  Cause (suc (suc zero)) place = LongShape stated l place
  Cause (suc (suc (suc zero))) place = ((stated ≡ None) × DroppedText l rate) × (place ≡ 0)
  Cause (suc (suc (suc (suc zero)))) place = PerfRefused l stated × (place ≡ 0)
  Cause (suc (suc (suc (suc (suc zero))))) place = CountOut l stated rate × (place ≡ 0)
  Cause (suc (suc (suc (suc (suc (suc past)))))) place = Behind (eqb past 0) (eqb past 7) place

  abbrev pub Told : Result Read Refusal → Type 0
  Told (Ok (Label tc)) = (tc ≡ timecode tc.count rate) × (LabelCount l stated rate tc.count × (is_count tc.count ≡ true))
  Told (Ok (Footage tc format)) = (tc ≡ timecode tc.count rate) × (FootageCount l stated format tc.count × (is_count tc.count ≡ true))
  Told (Err e) = Cause (refusal_number e) e.place

  -- ---- a label
  label-by-count : (z : ℤ) → LabelCount l stated rate z → (t : Bool) → is_count z ≡ t → Told (as_label rate (held z))
  label-by-count z x true e = subst (λ a. Told (as_label rate a)) (sym (held_in z e)) (refl, (x, e))
  label-by-count z x false e = subst (λ a. Told (as_label rate a)) (sym (held_out z e)) (record { z = z; count = inl x; out = e }, refl)

  label_told : stated ≡ None → (m : Bool) (fields : List ℕ) → LabelText l m fields
      → (t : Bool) → dropped_in (drop_frames rate) fields ≡ t → Told (label_read rate m fields)
  label_told u m fields x true e =
      subst Told (sym (label-dropped rate m fields e)) ((u, record { minus = m; fields = fields; text = x; dropped = e }), refl)
  label_told u m fields x false e =
      let z = label_frames rate m fields in
      subst Told (sym (label_kept rate m fields e))
      (label-by-count z (record { unstated = u; minus = m; fields = fields; text = x; kept = e; count = refl }) (is_count z) refl)

  -- ---- a footage
  footage-by-count : (format : FilmFormat) (z : ℤ) → FootageCount l stated format z → (t : Bool) → is_count z ≡ t → Told (as_footage rate format (held z))
  footage-by-count format z x true e = subst (λ a. Told (as_footage rate format a)) (sym (held_in z e)) (refl, (x, e))
  footage-by-count format z x false e =
      subst (λ a. Told (as_footage rate format a)) (sym (held_out z e)) (record { z = z; count = inr (format, x); out = e }, refl)

  -- a format takes every footage but one with a perf field that it has not
  refuses : (format : FilmFormat) (perf : Bool) → takes_perf format perf ≡ false → (perf ≡ true) × (allows_perf_field format ≡ false)
  refuses format true e = (refl, e)
  refuses format false e = let z : ◌≡◌ {A = ℕ} 0 1 = cc in absurd (omega arith)

  module _ (p : FootageParts) (x : FootageText l p) where
    abbrev perf : Bool
    perf = has_perf p.perf

    abbrev format : FilmFormat
    format = format_for stated perf

    abbrev read : Result Read Refusal
    read = footage_read rate format p.minus (value_of p.feet) (value_of p.frames) perf (value_of p.perf)

    -- in a format that takes it, by whether it can be on the film
    film-told : takes_perf format perf ≡ true → (t : Bool) → on_film format (value_of p.feet) (value_of p.frames) perf (value_of p.perf) ≡ t → Told read
    film-told e true f =
        let z = footage_frames format p.minus (value_of p.feet) (value_of p.frames) in
        let on = (on_film_exactly format (value_of p.feet) (value_of p.frames) perf (value_of p.perf)).0 f in
        subst Told (sym (footage-on rate format p.minus (value_of p.feet) (value_of p.frames) perf (value_of p.perf) e f))
        (footage-by-count format z
        (record { parts = p; text = x; in-format = record { chosen = refl; takes = e }; on = on; count = refl })
        (is_count z) refl)
    film-told e false f =
        subst Told (sym (footage-off rate format p.minus (value_of p.feet) (value_of p.frames) perf (value_of p.perf) e f)) (
          record {
            parts = p;
            text = x;
            format = format;
            in-format = record { chosen = refl; takes = e };
            off = (off_film_exactly format (value_of p.feet) (value_of p.frames) perf (value_of p.perf)).0 f;
          },
          refl,
        )

    footage_told : (t : Bool) → takes_perf format perf ≡ t → Told read
    footage_told false e =
        let r = refuses format perf e in
        subst Told (sym (footage-marked rate format p.minus (value_of p.feet) (value_of p.frames) perf (value_of p.perf) e))
        (record { parts = p; text = x; present = r.0; none = ap (λ (b : Bool). allows_perf_field (format_for stated b)) (sym r.0) ∙ r.1 }, refl)
    footage_told true e = film-told e (on_film format (value_of p.feet) (value_of p.frames) perf (value_of p.perf)) refl

  -- ---- a text
  kind-told : (x : Shaped) → Kind stated l x → Told (read_shaped rate stated x)
  kind-told x (none place h longest) = (h, longest)
  kind-told x (long place h) = h
  kind-told x (labelled {m = m} {fields = fields} u t) = label_told u m fields t (dropped_in (drop_frames rate) fields) refl
  kind-told x (filmed p t) = footage_told p t (takes_perf (format p t) (perf p t)) refl

  by_format : is_rate rate ≡ true → (t : Bool) → is_stated stated ≡ t → Told (read_text l stated rate)
  by_format r true s = subst Told (sym (read-shaped l stated rate r s)) (kind-told (shape_of stated l) (kind stated l))
  by_format r false s = subst Told (sym (no-format l stated rate r s)) (inr s, refl)

  by-rate : (t : Bool) → is_rate rate ≡ t → Told (read_text l stated rate)
  by-rate true r = by_format r (is_stated stated) refl
  by-rate false r = subst Told (sym (no_rate l stated rate r)) (inl r, refl)

  pub told : Told (read_text l stated rate)
  told = by-rate (is_rate rate) refl

  number_by : (r : Result Read Refusal) (n : ℕ) → Told r → 0 < n → number_of r ≡ n → Cause n (place_of r)
  number_by (Ok (Label tc)) n t h e = absurd (omega arith)
  number_by (Ok (Footage tc format)) n t h e = absurd (omega arith)
  number_by (Err f) n t h e = subst (λ (k : ℕ). Cause k f.place) e t

  -- a refusal's number tells its cause, and what its place is
  pub cause : (n : ℕ) → 0 < n → number_of (read_text l stated rate) ≡ n → Cause n (place_of (read_text l stated rate))
  cause n h e = number_by (read_text l stated rate) n told h e

  behind-else : (six thirteen : Bool) (place : ℕ) → Behind six thirteen place → place ≡ 0
  behind-else true t place c = c.1
  behind-else false true place c = c.1
  behind-else false false place c = absurd c

  -- any other number than 1 and 2 comes with place 0
  cause-else : (n place : ℕ) → Cause n place → ¬ (n ≡ 1) → ¬ (n ≡ 2) → place ≡ 0
  cause-else zero place c one two = absurd c
  cause-else (suc zero) place c one two = absurd (one refl)
  cause-else (suc (suc zero)) place c one two = absurd (two refl)
  cause-else (suc (suc (suc zero))) place c one two = c.1
  cause-else (suc (suc (suc (suc zero)))) place c one two = c.1
  cause-else (suc (suc (suc (suc (suc zero))))) place c one two = c.1
  cause-else (suc (suc (suc (suc (suc (suc past)))))) place c one two = behind-else (eqb past 0) (eqb past 7) place c

  else-by : (r : Result Read Refusal) → Told r → ¬ (number_of r ≡ 1) → ¬ (number_of r ≡ 2) → place_of r ≡ 0
  else-by (Ok (Label tc)) t one two = refl
  else-by (Ok (Footage tc format)) t one two = refl
  else-by (Err f) t one two = cause-else (refusal_number f) f.place t one two

  pub place_else : ¬ (number_of (read_text l stated rate) ≡ 1) → ¬ (number_of (read_text l stated rate) ≡ 2) → place_of (read_text l stated rate) ≡ 0
  place_else = else-by (read_text l stated rate) told
