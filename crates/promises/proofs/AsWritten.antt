-- A text is read as a footage exactly when its fields have the values of those that are written for its count.
-- Assumes nothing.
use Rattle.std.specs.Prelude.{Option}
use Prim.Native.Nat.{ℕ, ◌%◌}
use mathlib.Core.Path.{◌≡◌, refl, sym, ap, ap₂, ◌∙◌, subst}
use mathlib.Core.Logic.{◌⊎◌, inl, inr, ⊎_elim}
use mathlib.Core.List.{List}
use mathlib.Core.Bool.{Bool, true}
use lib.IntN.{ℤ, pos, nat_abs}
use Rattle.numbers.specs.Sign.{is_neg, signed}
use Rattle.numbers.specs.SignLaws.{abs-signed, signed_back, is_neg-signed, signed-none}
use Rattle.digits.specs.Digits.{value_of}
use Rattle.digits.proofs.Leading.{leading_zeros, leading-decimal}
use Rattle.answers.specs.Refusals.{is_count}
use Rattle.film.specs.declared.FilmFormat.{FilmFormat}
use Rattle.film.specs.declared.Footage.{Footage}
use Rattle.film.specs.Film.{allows_perf_field}
use Rattle.film.specs.Footage.{footage_count, footage_of}
use Rattle.film.specs.FootageLaws.{perf-modulo}
use Rattle.film.proofs.Statements.{footage_back, footage_forth}
use Rattle.footage_scan.specs.Shape.{FootageParts, has_perf}
use Rattle.footage_scan.proofs.Statements.{one_footage_shape, footage-fields}
use Rattle.footage_writer.specs.FootageText.{footage_text}
use Rattle.reading.specs.Shaped.{format_for}
use Rattle.reading.specs.Reading.{takes_perf}
use Rattle.reading.specs.Statements.{FootageCount}
use Rattle.reading.proofs.Statements.{footage_counted}
use Rattle.promises.specs.AsWritten.{ButForZeros, Alike, AsWritten, ReadAsWritten}
use Rattle.promises.proofs.WrittenFootage.{marker_digits, marker-digits, marker-some, marker-taken, written, parts_of, written-shape, written-text}

module _ (l : List ℕ) (stated : Option ℕ) (format : FilmFormat) (count : ℤ) where
  -- ---- as written, then read
  module _ (y : AsWritten l stated format count) where
    abbrev q : FootageParts
    q = y.parts

    -- what is written has its parts in one way only
    like : Alike count q (parts_of format count)
    like =
        subst (Alike count q)
        (one_footage_shape (footage_text format count) y.written (parts_of format count) y.shape (written-shape format count))
        y.alike

    feet-is : value_of q.feet ≡ (written format count).feet
    feet-is = (leading-decimal q.feet 1 (written format count).feet (footage-fields l q y.text.shape).0.digits).1 like.feet

    frames-is : value_of q.frames ≡ (written format count).frames
    frames-is = (leading-decimal q.frames 2 (written format count).frames (footage-fields l q y.text.shape).1.digits).1 like.frames

    takes : takes_perf format (has_perf q.perf) ≡ true
    takes = marker-taken (allows_perf_field format) (written format count).perf (has_perf q.perf) (λ h. (like.marker h).0)

    marker-is : has_perf q.perf ≡ true → value_of q.perf ≡ value_of q.feet % 3
    marker-is h =
        let perf = (written format count).perf in
        let has = allows_perf_field format in
        let some = marker-some has perf (ap (takes_perf format) (sym h) ∙ takes) in
        (leading_zeros q.perf (marker_digits has perf) y.text.shape.shape.digits (marker-digits has perf)).1 (like.marker h).1
        ∙ some.1
        ∙ perf-modulo format (nat_abs count)
        ∙ ap (λ (f : ℕ). f % 3) (sym feet-is)

    signed_is : signed q.minus (nat_abs count) ≡ count
    signed_is =
        ⊎_elim
        (λ e. ap (λ (b : Bool). signed b (nat_abs count)) e ∙ signed_back count)
        (λ z. ap (λ (c : ℤ). signed q.minus (nat_abs c)) z ∙ signed-none q.minus ∙ sym z)
        like.sign

    footage-count : FootageCount l stated format count
    footage-count =
        record {
          parts = q;
          text = y.text;
          in-format = record { chosen = y.chosen; takes = takes };
          on = record { occurs = record { count = nat_abs count; feet_of = sym feet-is; frames_of = sym frames-is }; modulo = marker-is };
          count = ap (signed q.minus) (ap₂ (footage_count format) feet-is frames-is ∙ footage_back format (nat_abs count)) ∙ signed_is;
        }

  -- ---- read, then as written
  module _ (x : FootageCount l stated format count) where
    abbrev p : FootageParts
    p = x.parts

    abbrev total : ℕ
    total = footage_count format (value_of p.feet) (value_of p.frames)

    -- feet and frames of the count are those of the text, and the marker is feet modulo 3
    same : written format count ≡ record { feet = value_of p.feet; frames = value_of p.frames; perf = value_of p.feet % 3 }
    same =
        let is : total ≡ nat_abs count = sym (abs-signed p.minus total) ∙ ap nat_abs x.count in
        ap (footage_of format) (sym is) ∙ footage_forth format (value_of p.feet) (value_of p.frames) x.on.occurs

    feet-same : value_of p.feet ≡ (written format count).feet
    feet-same = sym (ap (λ (f : Footage). f.feet) same)

    frames-same : value_of p.frames ≡ (written format count).frames
    frames-same = sym (ap (λ (f : Footage). f.frames) same)

    marker-alike : has_perf p.perf ≡ true
        → (has_perf (parts_of format count).perf ≡ true) × ButForZeros p.perf (parts_of format count).perf
    marker-alike h =
        let perf = (written format count).perf in
        let has = allows_perf_field format in
        let some = marker-some has perf (ap (takes_perf format) (sym h) ∙ x.in-format.takes) in (
          some.0,
          (leading_zeros p.perf (marker_digits has perf) x.text.shape.shape.digits (marker-digits has perf)).0
              (x.on.modulo h ∙ sym (ap (λ (f : Footage). f.perf) same) ∙ sym some.1),
        )

    sign-alike : (p.minus ≡ is_neg count) ⊎ (count ≡ pos 0)
    sign-alike = ⊎_elim (λ e. inl (e ∙ ap is_neg x.count)) (λ z. inr (sym x.count ∙ z)) (is_neg-signed p.minus total)

    as_written : AsWritten l stated format count
    as_written =
        let fields = footage-fields l p x.text.shape in
        record {
          parts = p;
          text = x.text;
          chosen = x.in-format.chosen;
          written = parts_of format count;
          shape = written-shape format count;
          alike = record {
            feet = (leading-decimal p.feet 1 (written format count).feet fields.0.digits).0 feet-same;
            frames = (leading-decimal p.frames 2 (written format count).frames fields.1.digits).0 frames-same;
            marker = marker-alike;
            sign = sign-alike;
          };
        }

pub read_as_written : ReadAsWritten
read_as_written l stated rate format count a = (
  λ e. let x = (footage_counted l stated rate format count a).0 e in (as_written l stated format count x.0, x.1),
  λ y. (footage_counted l stated rate format count a).1 (footage-count l stated format count y.0, y.1),
)

-- what is written is so itself
pub itself : (stated : Option ℕ) (format : FilmFormat) (count : ℤ) → is_count count ≡ true
    → format_for stated (has_perf (parts_of format count).perf) ≡ format → AsWritten (footage_text format count) stated format count
itself stated format count c chosen =
    record {
      parts = parts_of format count;
      text = written-text format count c;
      chosen = chosen;
      written = parts_of format count;
      shape = written-shape format count;
      alike = record { feet = refl; frames = refl; marker = λ h. (h, refl); sign = inl refl };
    }
