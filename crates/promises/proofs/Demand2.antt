-- Demand 2: the allowed strict labels fill the day's counts once each, and the fields written of a count are these.
-- Assumes nothing.
use Rattle.answers.specs.declared.Refusal.{Refusal}
use Rattle.std.specs.Prelude.{Ok, Err, Result}
use Prim.Native.Nat.{ℕ, ◌+◌, ◌≤◌, ◌<◌}
use mathlib.Core.Path.{◌≡◌, refl, sym, ap, ◌∙◌, subst}
use mathlib.Core.Bool.{Bool, true, false}
use mathlib.Core.List.{List}
use mathlib.Core.Logic.{◌↔◌}
use native.Mathlib.Omega.{arith}
use borrow.Author.Tests.{le-leb}
use lib.IntN.{ℤ, pos, nat_abs}
use lib.ListN.{length}
use Rattle.lent.specs.Line.{splice}
use Rattle.answers.specs.Refusals.{dropped_label, most_count, is_count}
use Rattle.rates.specs.Rates.{rates, is_rate, rate_row, drop_frames, is_drop}
use Rattle.rates.proofs.Sound.{sound, drop-small}
use Rattle.rates.specs.Day.{day_frames}
use Rattle.rates.proofs.Days.{day-le}
use Rattle.labels.specs.Label.{count_in, dropped_in}
use Rattle.labels.specs.Sections.{label_number, sections_of}
use Rattle.labels.specs.StrictLaws.{is_strict-in}
use Rattle.labels.specs.Statements.{DayLabel, Filled}
use Rattle.labels.proofs.Statements.{one_label, fill_rate, fill_in_order}
use Rattle.reading.specs.declared.Read.{Read}
use Rattle.reading.specs.declared.Read.TheVariants.{Label}
use Rattle.reading.specs.Answer.{timecode_of}
use Rattle.reading.specs.Reading.{label_read}
use Rattle.reading.specs.ReadingLaws.{label-dropped}
use Rattle.reading.proofs.ByShape.{label-within}
use Rattle.reading.specs.For.{settled_read, is_label_of}
use Rattle.written.specs.Written.{Text, answer_to, line_to}
use Rattle.written.proofs.Laws.{text-written}
use Rattle.label_writer.specs.Sections.{label_fields}
use Rattle.label_writer.specs.LabelText.{frames_mark, label_text, label_draft}
use Rattle.label_writer.proofs.Answers.{label_of, label-parts, draft-text}
use Rattle.timecodes.specs.declared.kinds.Kind.{Kind}
use Rattle.timecodes.specs.declared.kinds.Kind.TheVariants as kinds
use Rattle.timecodes.specs.Timecode.{timecode_as}
use Rattle.timecodes.specs.Made.{made}
use Rattle.timecodes.specs.Statements.{CountUnder}
use Rattle.timecodes.specs.Admitted.{Valid}
use Rattle.timecodes.specs.MadeLaws.{in_day-own, under-day}
use Rattle.promises.specs.Demand2.{two_digit_text, StrictText, read_at, ReadAs, FillsEachRate, Demand2At5, Demand2At11}
use Rattle.promises.proofs.Read.{mark-divides, read-label-for}
use Rattle.promises.proofs.StrictLabels.{two_digits, two-digit-length, strict-digits, strict-scan}

-- ---- a number of the day, by kind
module _ (rate : ℕ) (r : is_rate rate ≡ true) (n : ℕ) (l : n < day_frames rate) where
  -- is made as it is
  own : (kind : Kind) → made kind (pos n) rate ≡ timecode_as kind (pos n) rate
  own kinds.Length = refl
  own kinds.Position = ap (λ (z : ℤ). timecode_as kinds.Position z rate) (in_day-own rate r n l)

  few : is_count (pos n) ≡ true
  few = le-leb n most_count (omega (arith, day-le rate))

  -- and within its bounds
  day-valid : (kind : Kind) → Valid (timecode_as kind (pos n) rate)
  day-valid kinds.Length = record { rate = r; within = few }
  day-valid kinds.Position = record { rate = r; within = under-day rate r n l }

-- ---- at a rate
module _ (kind : Kind) (rate : ℕ) (r : is_rate rate ≡ true) where
  abbrev timebase : ℕ
  timebase = (rate_row rate).timebase

  abbrev D : ℕ
  D = drop_frames rate

  abbrev mark : ℕ
  mark = frames_mark rate

  filled : Filled timebase D (day_frames rate)
  filled = fill_rate rate r

  module _ (fields text : List ℕ) (x : StrictText timebase fields text) where
    abbrev count : ℕ
    count = count_in timebase D fields

    -- it may be the label of either kind
    either : (k : Kind) → is_label_of k rate false fields ≡ true
    either kinds.Length = refl
    either kinds.Position = is_strict-in timebase fields x.hours x.strict

    strict-read : read_at kind rate text ≡ settled_read kind (label_read rate false fields)
    strict-read =
        read-label-for rate text r kind false fields (strict-scan timebase (sound rate r).timebase_most fields text x) (either kind)

    dropped-read : dropped_in D fields ≡ true → read_at kind rate text ≡ Err dropped_label
    dropped-read e = strict-read ∙ ap (settled_read kind) (label-dropped rate false fields e)

    of_day : dropped_in D fields ≡ false → (n : ℕ) → count ≡ n → DayLabel timebase D n fields
    of_day e n c = record { hours = x.hours; label = record { strict = x.strict; allowed = e; count = c } }

    under_whole : dropped_in D fields ≡ false → count < day_frames rate
    under_whole e = filled.under count fields (of_day e count refl)

    kept_read : dropped_in D fields ≡ false → read_at kind rate text ≡ Ok (Label (timecode_as kind (pos count) rate))
    kept_read e =
        strict-read
        ∙ ap (settled_read kind) (label-within rate false fields e (few rate r count (under_whole e)))
        ∙ ap (λ x. Ok (Label x)) (own rate r count (under_whole e) kind)

    -- what is read as z is allowed, and z is its count
    is-count : (z : ℤ) → read_at kind rate text ≡ Ok (Label (timecode_as kind z rate)) → (dropped_in D fields ≡ false) × (z ≡ pos count)
    is-count z e = by (dropped_in D fields) refl
      where
        by : (t : Bool) → dropped_in D fields ≡ t → (dropped_in D fields ≡ false) × (z ≡ pos count)
        by true p = let q = dropped-read p in let f : ◌≡◌ {A = ℕ} 0 1 = cc in absurd (omega arith)
        by false p = (p, ap (λ (x : Result Read Refusal). (timecode_of x).count) (sym e ∙ kept_read p))

    is-dropped : read_at kind rate text ≡ Err dropped_label → dropped_in D fields ≡ true
    is-dropped e = by (dropped_in D fields) refl
      where
        by : (t : Bool) → dropped_in D fields ≡ t → dropped_in D fields ≡ true
        by true p = p
        by false p = let q = kept_read p in let f : ◌≡◌ {A = ℕ} 0 1 = cc in absurd (omega arith)

    -- the text of the count has the label's fields
    fields-again : dropped_in D fields ≡ false → label_fields rate (pos count) ≡ fields
    fields-again e =
        one_label timebase D count (label_fields rate (pos count)) fields (drop-small rate r) (label_of rate (pos count) r) (of_day e count refl).label

    text-again : dropped_in D fields ≡ false → label_text rate (pos count) ≡ two_digit_text fields 58 58 mark
    text-again e =
        label-parts rate (pos count)
        ∙ rw (fields-again e) (two_digits fields 58 58 mark (strict-digits timebase (sound rate r).timebase_most fields text x))

  -- the label of a count of the day, as it is written
  day-text : (n : ℕ) → n < day_frames rate → StrictText timebase (sections_of timebase D n) (two_digit_text (sections_of timebase D n) 58 58 mark)
  day-text n l =
      let x = filled.had n l in
      record {
        hours = x.hours;
        strict = x.label.strict;
        first = 58;
        second = 58;
        third = mark;
        first_divides = refl;
        second_divides = refl;
        third_divides = mark-divides (is_drop rate);
        spelt = refl;
      }

  each_read : (n : ℕ) → n < day_frames rate → ReadAs kind rate timebase n
  each_read n l =
      let fields = sections_of timebase D n in
      let text = two_digit_text fields 58 58 mark in
      let x = (filled.had n l).label in
      record {
        fields = fields;
        text = text;
        label = day-text n l;
        read = kept_read fields text (day-text n l) x.allowed ∙ ap (λ (k : ℕ). Ok (Label (timecode_as kind (pos k) rate))) x.count;
      }

  once :
      (a b text other : List ℕ) (z : ℤ) → StrictText timebase a text → StrictText timebase b other
      → read_at kind rate text ≡ Ok (Label (timecode_as kind z rate)) → read_at kind rate other ≡ Ok (Label (timecode_as kind z rate)) → a ≡ b
  once a b text other z x y e f =
      let c = is-count a text x z e in
      let d = is-count b other y z f in
      let same : count_in timebase D b ≡ count_in timebase D a = cc in
      filled.once (count_in timebase D a) a b (of_day a text x c.0 _ refl) (of_day b other y d.0 _ same)

  in_order :
      (a b text other : List ℕ) (m n : ℕ) → StrictText timebase a text → StrictText timebase b other
      → read_at kind rate text ≡ Ok (Label (timecode_as kind (pos m) rate)) → read_at kind rate other ≡ Ok (Label (timecode_as kind (pos n) rate))
      → (m < n) ↔ (label_number timebase a < label_number timebase b)
  in_order a b text other m n x y e f =
      let c = is-count a text x (pos m) e in
      let d = is-count b other y (pos n) f in
      fill_in_order timebase D m n a b (drop-small rate r)
      (of_day a text x c.0 m (sym (ap nat_abs c.1))).label
      (of_day b other y d.0 n (sym (ap nat_abs d.1))).label

  module _ (fields text : List ℕ) (z : ℤ) (x : StrictText timebase fields text) (e : read_at kind rate text ≡ Ok (Label (timecode_as kind z rate))) where
    fields_back : label_text rate z ≡ two_digit_text fields 58 58 mark
    fields_back = let c = is-count fields text x z e in ap (label_text rate) c.1 ∙ text-again fields text x c.0

    count_under : CountUnder (day_frames rate) z
    count_under =
        let c = is-count fields text x z e in record { number = count fields text x; is = c.1; under = under_whole fields text x c.0 }

    in_bounds : Valid (timecode_as kind z rate)
    in_bounds =
        let c = count_under in
        subst (λ (y : ℤ). Valid (timecode_as kind y rate)) (sym c.is) (day-valid rate r c.number c.under kind)

    draft-back : label_draft (timecode_as kind z rate) ≡ Text (two_digit_text fields 58 58 mark)
    draft-back = draft-text (timecode_as kind z rate) in_bounds ∙ ap Text fields_back

    written_back : (line : List ℕ) (place : ℕ) → place + 11 ≤ length line
        → (answer_to line place (label_draft (timecode_as kind z rate)) ≡ Ok 11)
        × (line_to line place (label_draft (timecode_as kind z rate)) ≡ splice line place (two_digit_text fields 58 58 mark))
    written_back line place room =
        let long = two-digit-length fields 58 58 mark in
        let w = text-written line place (two_digit_text fields 58 58 mark) (omega arith) in
        (ap (answer_to line place) draft-back ∙ w.0 ∙ ap Ok long, ap (line_to line place) draft-back ∙ w.1)

pub fills_each_rate : FillsEachRate
fills_each_rate kind rate r = record {
  refuses_dropped = λ fields text x. (is-dropped kind rate r fields text x, dropped-read kind rate r fields text x);
  counts_earlier =
      λ fields text x e.
      kept_read kind rate r fields text x e
      ∙ ap (λ (k : ℕ). Ok (Label (timecode_as kind (pos k) rate)))
      ((filled kind rate r).earlier (count kind rate r fields text x) fields (of_day kind rate r fields text x e _ refl));
  each_read = each_read kind rate r;
  no_other = count_under kind rate r;
  once = once kind rate r;
  in_order = in_order kind rate r;
  fields_back = fields_back kind rate r;
  written_back = λ fields text z line place x e room. written_back kind rate r fields text z x e line place room;
}

pub demand2_at5 : Demand2At5
unfolding is_rate rate_row rates drop_frames is_drop day_frames
demand2_at5 = fills_each_rate kinds.Position 5 refl

pub demand2_at11 : Demand2At11
unfolding is_rate rate_row rates drop_frames is_drop day_frames
demand2_at11 = fills_each_rate kinds.Position 11 refl
