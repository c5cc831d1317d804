-- The fact behind the reader's number holds of the text, number by number.
-- Assumes nothing.
use Rattle.std.specs.Prelude.{Option, None}
use Prim.Native.Nat.{ℕ, ◌≤◌, ◌<◌}
use native.Mathlib.Omega.{arith}
use mathlib.Core.Path.{◌≡◌, refl, sym, ap, ◌∙◌, subst}
use mathlib.Core.Logic.{◌⊎◌, inl, inr, ⊎_elim}
use mathlib.Core.Bool.{Bool, true, false}
use mathlib.Core.List.{List}
use native.Mathlib.Decide.{dec_lt}
use borrow.Author.Tests.{eqb-true, eqb-false}
use lib.Dec.{eqb}
use Rattle.answers.specs.Refusals.{is_count}
use Rattle.rates.specs.Rates.{is_rate}
use Rattle.rates.proofs.Sound.{sound}
use Rattle.timecodes.specs.declared.kinds.Kind.{Kind}
use Rattle.timecodes.specs.declared.kinds.Kind.TheVariants.{Length, Position}
use Rattle.reading.specs.Answer.{number_of}
use Rattle.reading.specs.Shaped.{Shaped, label, footage, refused, is_stated, shape_of}
use Rattle.reading.specs.Reading.{read_text}
use Rattle.reading.specs.For.{read_for}
use Rattle.reading.proofs.ByShape.{read_length}
use Rattle.reading.specs.Statements.{RateAndFormat, CountOut}
use Rattle.reading.proofs.Statements.{refused-six, refused_three, refused-five, refused_thirteen, numbers_given}
use Rattle.reading.proofs.Positions.{refused_fourteen, position_else, settled-number, label-shape}
use Rattle.reasons.specs.Facts.{fact_by}
use Rattle.reasons.specs.Holds.{FactHolds, none, dropped}
use Rattle.reasons.proofs.Facts.{label-three, label_none, footage-none}
use Rattle.reasons.proofs.FirstLabel.{first_of_minute}
use Rattle.reasons.proofs.Counts.{label-count, footage-count}
use Rattle.reasons.proofs.Film.{thirteen-holds}
use Rattle.reasons.proofs.Strict.{fourteen-holds}

-- a number that shows nothing
pub nothing-by : (n rate : ℕ) (stated : Option ℕ) (x : Shaped) → ¬ (n ≡ 3) → ¬ (n ≡ 5) → ¬ (n ≡ 13) → ¬ (n ≡ 14) → fact_by n rate stated x ≡ None
nothing-by n rate stated (label minus fields) a b c d = label_none n rate minus fields a b d
nothing-by n rate stated (footage minus feet frames perf marker) a b c d = footage-none n _ minus feet frames perf marker b c
nothing-by n rate stated (refused e) a b c d = refl

module _ (l : List ℕ) (stated : Option ℕ) (rate : ℕ) where
  -- what is to be shown of a number
  abbrev Wanted : ℕ → Type 0
  Wanted n = FactHolds l stated rate n (fact_by n rate stated (shape_of stated l))

  nothing-holds : (n : ℕ) → (n ≤ 2) ⊎ ((n ≡ 4) ⊎ (n ≡ 6)) → ¬ (n ≡ 3) → ¬ (n ≡ 5) → ¬ (n ≡ 13) → ¬ (n ≡ 14) → Wanted n
  nothing-holds n h a b c d = subst (FactHolds l stated rate n) (sym (nothing-by n rate stated (shape_of stated l) a b c d)) (none h)

  -- a number that is not 6 tells that there is such a rate and film format
  rated : ¬ (number_of (read_text l stated rate) ≡ 6) → RateAndFormat stated rate
  rated n = by (is_rate rate) (is_stated stated) refl refl
    where
      by : (s t : Bool) → is_rate rate ≡ s → is_stated stated ≡ t → RateAndFormat stated rate
      by false t e f = absurd (n ((refused-six l stated rate).1 (inl e)))
      by true false e f = absurd (n ((refused-six l stated rate).1 (inr f)))
      by true true e f = record { rated = e; filmed = f }

  three : RateAndFormat stated rate → number_of (read_text l stated rate) ≡ 3 → Wanted 3
  three a e =
      let x = (refused_three l stated rate a).0 e in
      let t = x.1 in
      let is =
      ap (fact_by 3 rate stated) (label-shape l stated t.minus t.fields x.0 t.text)
      ∙ label-three 3 rate t.minus t.fields refl in
      subst (FactHolds l stated rate 3) (sym is) (dropped t.text (first_of_minute rate t.minus t.fields a.rated t.dropped))

  five : RateAndFormat stated rate → number_of (read_text l stated rate) ≡ 5 → Wanted 5
  five a e = by ((refused-five l stated rate a).0 e)
    where
      by : CountOut l stated rate → Wanted 5
      by x =
          ⊎_elim
          (λ c.
          label-count l stated rate a.rated c.minus c.fields
          (record { unstated = c.unstated; minus = c.minus; fields = c.fields; text = c.text; kept = c.kept; count = refl })
          (label-shape l stated c.minus c.fields c.unstated c.text)
          (subst (λ z. is_count z ≡ false) (sym c.count) x.out))
          (λ c.
          let d = c.1 in
          footage-count l stated rate a.rated c.0 d.parts d.text d.in-format.chosen
          (record { parts = d.parts; text = d.text; in-format = d.in-format; on = d.on; count = refl })
          (subst (λ z. is_count z ≡ false) (sym d.count) x.out))
          x.count

  -- a number that is read, and none of those that show something
  rest : (n : ℕ) → (n ≤ 6) ⊎ (n ≡ 13) → ¬ (n ≡ 3) → ¬ (n ≡ 5) → ¬ (n ≡ 13) → (n ≤ 2) ⊎ ((n ≡ 4) ⊎ (n ≡ 6))
  rest n given a b c = ⊎_elim (λ h. by h (dec_lt n 3) (eqb n 4) refl) (λ e. absurd (c e)) given
    where
      by : n ≤ 6 → Dec (n < 3) → (t : Bool) → eqb n 4 ≡ t → (n ≤ 2) ⊎ ((n ≡ 4) ⊎ (n ≡ 6))
      by h (yes low) t e = inl (omega arith)
      by h (no low) true e = inr (inl (eqb-true n 4 e))
      by h (no low) false e = inr (inr (omega (arith, eqb-false n 4 e, a, b)))

  -- of a length
  length-by : (n : ℕ) → number_of (read_text l stated rate) ≡ n → Wanted n
  length-by n e = by (eqb n 3) (eqb n 5) (eqb n 13) refl refl refl
    where
      given : (n ≤ 6) ⊎ (n ≡ 13)
      given = subst (λ (k : ℕ). (k ≤ 6) ⊎ (k ≡ 13)) e (numbers_given l stated rate)

      by : (r s t : Bool) → eqb n 3 ≡ r → eqb n 5 ≡ s → eqb n 13 ≡ t → Wanted n
      by true s t x y z =
          let is = eqb-true n 3 x in subst Wanted (sym is) (three (rated (λ six. omega (arith, e, six, is))) (e ∙ is))
      by false true t x y z =
          let is = eqb-true n 5 y in subst Wanted (sym is) (five (rated (λ six. omega (arith, e, six, is))) (e ∙ is))
      by false false true x y z =
          let is = eqb-true n 13 z in
          subst Wanted (sym is)
          (thirteen-holds l stated rate ((refused_thirteen l stated rate (rated (λ six. omega (arith, e, six, is)))).0 (e ∙ is)))
      by false false false x y z =
          nothing-holds n (rest n given (eqb-false n 3 x) (eqb-false n 5 y) (eqb-false n 13 z)) (eqb-false n 3 x) (eqb-false n 5 y) (eqb-false n 13 z)
          (λ w. ⊎_elim (λ h. omega (arith, h, w)) (λ h. omega (arith, h, w)) given)

  -- of a position
  position-by : (n : ℕ) → number_of (read_for Position l stated rate) ≡ n → Wanted n
  position-by n e = by (eqb n 14) refl
    where
      by : (t : Bool) → eqb n 14 ≡ t → Wanted n
      by true x =
          let is = eqb-true n 14 x in
          let given = (refused_fourteen l stated rate).0 (e ∙ is) in
          let s = sound rate given.0.rated in
          subst Wanted (sym is) (fourteen-holds l stated rate given.1.0 (omega (arith, s.timebase_least)) given.1.1)
      by false x =
          length-by n
          (sym (settled-number Position (read_text l stated rate))
          ∙ sym (ap number_of (position_else l stated rate (λ w. eqb-false n 14 x (sym e ∙ w))))
          ∙ e)

  pub number-holds : (kind : Kind) → Wanted (number_of (read_for kind l stated rate))
  number-holds Length = length-by _ (sym (ap number_of (read_length l stated rate)))
  number-holds Position = position-by _ refl
