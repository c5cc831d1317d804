-- A text has one fact for a number: any two that hold are equal.
-- Assumes nothing.
use Rattle.std.specs.Prelude.{Option, Some}
use Prim.Native.Nat.{ℕ, ◌≤◌, ◌<◌}
use native.Mathlib.Omega.{arith}
use native.Mathlib.Decide.{dec_lt}
use mathlib.Core.Path.{◌≡◌, refl, sym, ap, ◌∙◌, subst}
use mathlib.Core.Logic.{◌⊎◌, ⊎_elim}
use mathlib.Core.Bool.{Bool, true}
use mathlib.Core.List.{List, map}
use lib.Dec.{T}
use lib.IntN.{ℤ, pos}
use lib.ListN.{get_or}
use Rattle.digits.specs.Digits.{value_of}
use Rattle.answers.specs.Refusals.{is_count}
use Rattle.faults.specs.declared.Fault.{Fault}
use Rattle.faults.specs.Faults as faults
use Rattle.faults.specs.Faults.{NearestAllowed, limit_of}
use Rattle.faults.specs.OneLaws.{one-limit, limit-apart, one-fault}
use Rattle.rates.specs.Rates.{rate_row}
use Rattle.film.specs.declared.FilmFormat.{FilmFormat}
use Rattle.labels.specs.Label.{hours_in, minutes_in, seconds_in, frames_in}
use Rattle.labels.specs.AtRate.{label_frames}
use Rattle.labels.specs.Sections.{label_number, fields_at}
use Rattle.labels.proofs.Statements.{one_number}
use Rattle.scanner.specs.Justified.{justified}
use Rattle.label_scan.proofs.Statements.{one_label_shape}
use Rattle.footage_scan.specs.Shape.{FootageParts, has_perf}
use Rattle.footage_scan.proofs.Statements.{one_footage_shape}
use Rattle.label_writer.specs.declared.TimecodeSections.{TimecodeSections}
use Rattle.reading.specs.Shaped.{format_for}
use Rattle.reading.specs.Reading.{footage_frames}
use Rattle.reading.specs.Statements.{LabelText, LabelCount, FootageCount}
use Rattle.reading.proofs.Shapes.{shapes_apart}
use Rattle.reasons.specs.declared.Fact.{Fact}
use Rattle.reasons.specs.declared.Fact.TheVariants.{Limit, First}
use Rattle.reasons.specs.Holds.{fields_of, FirstOfMinute, CountOf, CountFact, OfFoot, FilmFact, FootageFact, OfDayLabel, field_at, StrictFact, FactHolds}
use Rattle.reasons.specs.Holds.{frames, marker, sign, field, none, dropped, out-of-bounds, not-on-film, not-strict}

-- ---- a text has one label, and one footage
one-text : (l : List ℕ) (m n : Bool) (a b : List ℕ) → LabelText l m a → LabelText l n b → (m ≡ n) × (a ≡ b)
one-text l m n a b s t =
    let same = one_label_shape l m n s.digits t.digits s.shape t.shape in
    (same.0, sym s.values ∙ ap (λ (d : List (List ℕ)). justified (map value_of d)) same.1 ∙ t.values)

-- ---- faults of one field that show the nearest to one value
one_of : (Allowed : ℤ → Type 0) (f g : Fault) → f.field ≡ g.field → faults.value_of f ≡ faults.value_of g
    → NearestAllowed Allowed (limit_of f) (faults.value_of f) → NearestAllowed Allowed (limit_of g) (faults.value_of g) → f ≡ g
one_of Allowed f g e v p q =
    let limit = one-limit Allowed (faults.value_of f) (limit_of f) (limit_of g) p (subst (NearestAllowed Allowed (limit_of g)) (sym v) q) in
    one-fault f g e limit v (limit-apart Allowed (limit_of f) (faults.value_of f) p)

-- ---- 3
sections-same : (s t : TimecodeSections) → s.negative ≡ t.negative → fields_of s ≡ fields_of t → s ≡ t
sections-same s t n e =
    ap (λ (x : Bool). of x s.hours s.minutes s.seconds s.frames) n
    ∙ ap (λ (x : ℕ). of t.negative x s.minutes s.seconds s.frames) (ap hours_in e)
    ∙ ap (λ (x : ℕ). of t.negative t.hours x s.seconds s.frames) (ap minutes_in e)
    ∙ ap (λ (x : ℕ). of t.negative t.hours t.minutes x s.frames) (ap seconds_in e)
    ∙ ap (λ (x : ℕ). of t.negative t.hours t.minutes t.seconds x) (ap frames_in e)
  where
    of : Bool → (h m s f : ℕ) → TimecodeSections
    of n h m s f = record { negative = n; hours = h; minutes = m; seconds = s; frames = f }

one-first : (rate : ℕ) (minus : Bool) (fields : List ℕ) (s t : TimecodeSections) → FirstOfMinute rate minus fields s → FirstOfMinute rate minus fields t → s ≡ t
one-first rate minus fields s t p q =
    let timebase = (rate_row rate).timebase in
    let low = p.first (fields_of t) q.strict q.allowed q.minute in
    let high = q.first (fields_of s) p.strict p.allowed p.minute in
    let number : label_number timebase (fields_of s) ≡ label_number timebase (fields_of t) = omega (arith, low, high) in
    sections-same s t (p.sign ∙ sym q.sign)
    (sym (one_number timebase (fields_of s) p.strict) ∙ ap (fields_at timebase) number ∙ one_number timebase (fields_of t) q.strict)

-- ---- 5
module _ (l : List ℕ) (stated : Option ℕ) (rate : ℕ) where
  one-label-count : (y z : ℤ) → LabelCount l stated rate y → LabelCount l stated rate z → y ≡ z
  one-label-count y z a b =
      let same = one-text l a.minus b.minus a.fields b.fields a.text b.text in
      sym a.count
      ∙ ap (λ (m : Bool). label_frames rate m a.fields) same.0
      ∙ ap (λ (x : List ℕ). label_frames rate b.minus x) same.1
      ∙ b.count

  one-footage-count : (y z : ℤ) (f g : FilmFormat) → FootageCount l stated f y → FootageCount l stated g z → y ≡ z
  one-footage-count y z f g a b =
      let same = one_footage_shape l a.parts b.parts a.text.shape b.text.shape in
      sym a.count
      ∙ ap (λ (x : FilmFormat). footage_frames x a.parts.minus (value_of a.parts.feet) (value_of a.parts.frames)) (sym a.in-format.chosen)
      ∙ ap (λ (p : FootageParts). footage_frames (format_for stated (has_perf p.perf)) p.minus (value_of p.feet) (value_of p.frames)) same
      ∙ ap (λ (x : FilmFormat). footage_frames x b.parts.minus (value_of b.parts.feet) (value_of b.parts.frames)) b.in-format.chosen
      ∙ b.count

  one-count : (y z : ℤ) → CountOf l stated rate y → CountOf l stated rate z → y ≡ z
  one-count y z a b =
      ⊎_elim
      (λ x. ⊎_elim (one-label-count y z x) (λ w. absurd (apart x w.1)) b)
      (λ x. ⊎_elim (λ w. absurd (apart w x.1)) (λ w. one-footage-count y z x.0 w.0 x.1 w.1) b)
      a
    where
      apart : {p q : ℤ} {format : FilmFormat} → LabelCount l stated rate p → FootageCount l stated format q → ⊥
      apart x w = shapes_apart l x.minus x.text.digits w.parts x.text.shape w.text.shape

  one-count-fact : (f g : Fault) → CountFact l stated rate f → CountFact l stated rate g → f ≡ g
  one-count-fact f g a b =
      one_of (λ z. is_count z ≡ true) f g (a.of_count ∙ sym b.of_count) (one-count (faults.value_of f) (faults.value_of g) a.count b.count) a.nearest b.nearest

-- ---- 13
one-film : (format : FilmFormat) (p : FootageParts) (f g : Fault) → FilmFact format p f → FilmFact format p g → f ≡ g
one-film format p f g (frames a v n) (frames b w m) = one_of (OfFoot format (value_of p.feet)) f g (a ∙ sym b) (v ∙ sym w) n m
one-film format p f g (frames a v n) (marker b o h w m) = absurd (n.not_allowed (record { number = value_of p.frames; is = v; occurs = o }))
one-film format p f g (marker a o h v n) (frames b w m) = absurd (m.not_allowed (record { number = value_of p.frames; is = w; occurs = o }))
one-film format p f g (marker a o h v n) (marker b i k w m) = one_of _ f g (a ∙ sym b) (v ∙ sym w) n m

one-footage-fact : (l : List ℕ) (stated : Option ℕ) (f g : Fault) → FootageFact l stated f → FootageFact l stated g → f ≡ g
one-footage-fact l stated f g a b =
    let same = one_footage_shape l a.parts b.parts a.text.shape b.text.shape in
    let format : a.format ≡ b.format =
    sym a.in-format.chosen ∙ ap (λ (p : FootageParts). format_for stated (has_perf p.perf)) same ∙ b.in-format.chosen in
    one-film b.format b.parts f g (subst (λ (x : FilmFormat). FilmFact x b.parts f) format (subst (λ (p : FootageParts). FilmFact a.format p f) same a.fact)) b.fact

-- ---- 14
-- a field to the left of another that is at fault is allowed, so the same one is shown
one-strict : (timebase : ℕ) (minus : Bool) (fields : List ℕ) (f g : Fault) → StrictFact timebase minus fields f → StrictFact timebase minus fields g → f ≡ g
one-strict timebase minus fields f g (sign m e) (sign n d) = e ∙ sym d
one-strict timebase minus fields f g (sign m e) (field j h b n left w q) = absurd (subst T (sym m ∙ n) tt)
one-strict timebase minus fields f g (field i h a n left v p) (sign m e) = absurd (subst T (sym m ∙ n) tt)
one-strict timebase minus fields f g (field i h a m left v p) (field j k b n before w q) = by (dec_lt i j) (dec_lt j i)
  where
    by : Dec (i < j) → Dec (j < i) → f ≡ g
    by (yes x) y = absurd (p.not_allowed (subst (OfDayLabel timebase i) (sym v) (before i x)))
    by (no x) (yes y) = absurd (q.not_allowed (subst (OfDayLabel timebase j) (sym w) (left j y)))
    by (no x) (no y) =
        let same : i ≡ j = omega (arith, x, y) in
        one_of (OfDayLabel timebase j) f g (a ∙ ap field_at same ∙ sym b) (v ∙ ap (λ (c : ℕ). pos (get_or fields c 0)) same ∙ sym w)
        (subst (λ (c : ℕ). NearestAllowed (OfDayLabel timebase c) (limit_of f) (faults.value_of f)) same p) q

-- ---- by number
-- one that shows nothing is none of those that show something
no-fact : (n : ℕ) → (n ≤ 2) ⊎ ((n ≡ 4) ⊎ (n ≡ 6)) → ¬ (n ≡ 3) × ((¬ (n ≡ 5)) × ((¬ (n ≡ 13)) × (¬ (n ≡ 14))))
no-fact n h = (apart 3 (omega arith) (λ e. omega (arith, e)) (λ e. omega (arith, e)), (apart 5 (omega arith) (λ e. omega (arith, e)) (λ e. omega (arith, e)), (apart 13 (omega arith) (λ e. omega (arith, e)) (λ e. omega (arith, e)), apart 14 (omega arith) (λ e. omega (arith, e)) (λ e. omega (arith, e)))))
  where
    apart : (k : ℕ) → 2 < k → (k ≡ 4 → ⊥) → (k ≡ 6 → ⊥) → n ≡ k → ⊥
    apart k high four six e = ⊎_elim (λ x. omega (arith, x, e, high)) (λ x. ⊎_elim (λ y. four (sym e ∙ y)) (λ y. six (sym e ∙ y)) x) h

pub same-fact : (l : List ℕ) (stated : Option ℕ) (rate n : ℕ) (f g : Option Fact) → FactHolds l stated rate n f → FactHolds l stated rate n g → f ≡ g
same-fact l stated rate n f g (none h) (none k) = refl
same-fact l stated rate n f g (none h) (dropped t q) = absurd ((no-fact 3 h).0 refl)
same-fact l stated rate n f g (none h) (out-of-bounds q) = absurd ((no-fact 5 h).1.0 refl)
same-fact l stated rate n f g (none h) (not-on-film q) = absurd ((no-fact 13 h).1.1.0 refl)
same-fact l stated rate n f g (none h) (not-strict t q) = absurd ((no-fact 14 h).1.1.1 refl)
same-fact l stated rate n f g (dropped t p) (none h) = absurd ((no-fact 3 h).0 refl)
same-fact l stated rate n f g (out-of-bounds p) (none h) = absurd ((no-fact 5 h).1.0 refl)
same-fact l stated rate n f g (not-on-film p) (none h) = absurd ((no-fact 13 h).1.1.0 refl)
same-fact l stated rate n f g (not-strict t p) (none h) = absurd ((no-fact 14 h).1.1.1 refl)
same-fact l stated rate n f g (dropped {minus = a} {fields = x} {s = s} t p) (dropped {minus = b} {fields = y} {s = r} u q) =
    let same = one-text l a b x y t u in
    ap (λ x. Some (First x)) (one-first rate b y s r (subst (λ (z : List ℕ). FirstOfMinute rate b z s) same.1 (subst (λ (m : Bool). FirstOfMinute rate m x s) same.0 p)) q)
same-fact l stated rate n f g (out-of-bounds {f = a} p) (out-of-bounds {f = b} q) = ap (λ x. Some (Limit x)) (one-count-fact l stated rate a b p q)
same-fact l stated rate n f g (not-on-film {f = a} p) (not-on-film {f = b} q) = ap (λ x. Some (Limit x)) (one-footage-fact l stated a b p q)
same-fact l stated rate n f g (not-strict {minus = a} {fields = x} {f = v} t p) (not-strict {minus = b} {fields = y} {f = w} u q) =
    let same = one-text l a b x y t u in
    let timebase = (rate_row rate).timebase in
    ap (λ x. Some (Limit x))
    (one-strict timebase b y v w (subst (λ (z : List ℕ). StrictFact timebase b z v) same.1 (subst (λ (m : Bool). StrictFact timebase m x v) same.0 p)) q)
