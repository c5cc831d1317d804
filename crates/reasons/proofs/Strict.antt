-- What is shown of a position's label that is not strict is the sign, or else the leftmost field at fault; the limit is the nearest value that is
-- allowed there.
-- Assumes nothing.
use Rattle.std.specs.Prelude.{Option, Some, None}
use Prim.Native.Nat.{ℕ, zero, suc, ◌-◌, ◌≤◌, ◌<◌}
use native.Mathlib.Omega.{arith}
use native.Mathlib.Decide.{dec_lt}
use mathlib.Core.Path.{◌≡◌, refl, sym, ap, ◌∙◌, subst}
use mathlib.Core.Bool.{Bool, true, false}
use mathlib.Core.List.{List, [], ◌∷◌}
use lib.IntN.{ℤ, pos, nat_abs}
use lib.ListN.{length, get_or}
use Rattle.faults.specs.declared.Field.TheVariants.{Sign, Hours, Minutes, Seconds, Frames}
use Rattle.faults.specs.declared.Fault.{Fault}
use Rattle.faults.specs.Faults.{fault, under, leftmost}
use Rattle.faults.specs.FaultLaws.{under_at, under-not, nearest-under}
use Rattle.rates.specs.Rates.{rate_row}
use Rattle.labels.specs.Label.{hours_in, minutes_in, seconds_in, frames_in, Strict}
use Rattle.labels.specs.Faults.{strict_fault}
use Rattle.reading.specs.Shaped.{shape_of}
use Rattle.reading.specs.For.{position_fault}
use Rattle.reading.specs.Positions.{NotStrictText}
use Rattle.reading.proofs.Positions.{four-fields, label-shape}
use Rattle.reasons.specs.Facts.{limit_from, fact_by}
use Rattle.reasons.specs.Holds.{OfDayLabel, field_at, StrictFact, sign, field, FactHolds, not-strict}
use Rattle.reasons.proofs.Facts.{label-fourteen}

-- ---- what is allowed in each field: the numbers under its bound
abbrev bound_at : (timebase i : ℕ) → ℕ
bound_at timebase zero = 24
bound_at timebase (suc zero) = 60
bound_at timebase (suc (suc zero)) = 60
bound_at timebase (suc (suc (suc i))) = timebase

-- a value in the i-th of four fields, 0 in the others
abbrev alone : (i n : ℕ) → List ℕ
alone zero n = n ∷ 0 ∷ 0 ∷ 0 ∷ []
alone (suc zero) n = 0 ∷ n ∷ 0 ∷ 0 ∷ []
alone (suc (suc zero)) n = 0 ∷ 0 ∷ n ∷ 0 ∷ []
alone (suc (suc (suc i))) n = 0 ∷ 0 ∷ 0 ∷ n ∷ []

module _ (timebase : ℕ) (some : 0 < timebase) where
  day-all : (i n : ℕ) → i < 4 → n < bound_at timebase i → OfDayLabel timebase i (pos n)
  day-all zero n h b =
      record { fields = alone 0 n; hours = b; strict = record { four = refl; minutes = omega arith; seconds = omega arith; frames = some }; there = refl }
  day-all (suc zero) n h b =
      record { fields = alone 1 n; hours = omega arith; strict = record { four = refl; minutes = b; seconds = omega arith; frames = some }; there = refl }
  day-all (suc (suc zero)) n h b =
      record { fields = alone 2 n; hours = omega arith; strict = record { four = refl; minutes = omega arith; seconds = b; frames = some }; there = refl }
  day-all (suc (suc (suc zero))) n h b =
      record { fields = alone 3 n; hours = omega arith; strict = record { four = refl; minutes = omega arith; seconds = omega arith; frames = b }; there = refl }
  day-all (suc (suc (suc (suc i)))) n h b = absurd (omega arith)

  day-under : (i : ℕ) (fields : List ℕ) → i < 4 → hours_in fields < 24 → Strict timebase fields → get_or fields i 0 < bound_at timebase i
  day-under zero fields h hours s = hours
  day-under (suc zero) fields h hours s = s.minutes
  day-under (suc (suc zero)) fields h hours s = s.seconds
  day-under (suc (suc (suc zero))) fields h hours s = s.frames
  day-under (suc (suc (suc (suc i)))) fields h hours s = absurd (omega arith)

  day-only : (i : ℕ) → i < 4 → (x : ℤ) → OfDayLabel timebase i x → (nat_abs x < bound_at timebase i) × (x ≡ pos (nat_abs x))
  day-only i h x o =
      let low = day-under i o.fields h o.hours o.strict in
      let abs : nat_abs x ≡ get_or o.fields i 0 = ap nat_abs o.there in
      (omega arith, o.there ∙ ap pos (sym abs))

  bound_some : (i : ℕ) → 0 < bound_at timebase i
  bound_some zero = omega arith
  bound_some (suc zero) = omega arith
  bound_some (suc (suc zero)) = omega arith
  bound_some (suc (suc (suc i))) = some

  -- the fault of the i-th field, those to the left being under their bounds
  pub field-fact : (fields : List ℕ) (i : ℕ) → i < 4 → bound_at timebase i ≤ get_or fields i 0
      → ((j : ℕ) → j < i → get_or fields j 0 < bound_at timebase j)
      → StrictFact timebase false fields (fault (field_at i) false (bound_at timebase i - 1) (get_or fields i 0))
  field-fact fields i h past left =
      field i h refl refl (λ j k. day-all j (get_or fields j 0) (omega arith) (left j k)) refl
      (nearest-under (OfDayLabel timebase i) (bound_at timebase i) (get_or fields i 0) (bound_some i) past (day-only i h) (λ n b. day-all i n h b))

-- ---- the leftmost of them
-- under their bounds so far
under-1 : (timebase : ℕ) (fields : List ℕ) → hours_in fields < 24 → (j : ℕ) → j < 1 → get_or fields j 0 < bound_at timebase j
under-1 timebase fields h zero k = h
under-1 timebase fields h (suc j) k = absurd (omega arith)

under-2 : (timebase : ℕ) (fields : List ℕ) → hours_in fields < 24 → minutes_in fields < 60 → (j : ℕ) → j < 2 → get_or fields j 0 < bound_at timebase j
under-2 timebase fields h m zero k = h
under-2 timebase fields h m (suc zero) k = m
under-2 timebase fields h m (suc (suc j)) k = absurd (omega arith)

under-3 : (timebase : ℕ) (fields : List ℕ) → hours_in fields < 24 → minutes_in fields < 60 → seconds_in fields < 60
    → (j : ℕ) → j < 3 → get_or fields j 0 < bound_at timebase j
under-3 timebase fields h m s zero k = h
under-3 timebase fields h m s (suc zero) k = m
under-3 timebase fields h m s (suc (suc zero)) k = s
under-3 timebase fields h m s (suc (suc (suc j))) k = absurd (omega arith)

-- a fault that is found, and what it says
pub record FoundFact (found : Option Fault) (timebase : ℕ) (minus : Bool) (fields : List ℕ) : Type 0 where
  pub the : Fault
  pub is : found ≡ Some the
  pub fact : StrictFact timebase minus fields the

module _ (timebase : ℕ) (fields : List ℕ) (some : 0 < timebase) where
  abbrev h : ℕ
  h = hours_in fields

  abbrev m : ℕ
  m = minutes_in fields

  abbrev s : ℕ
  s = seconds_in fields

  abbrev f : ℕ
  f = frames_in fields

  abbrev Is : Option Fault → Type 0
  Is found = FoundFact found timebase false fields

  at-frames : h < 24 → m < 60 → s < 60 → timebase ≤ f → Is (under Frames timebase f)
  at-frames a b c past =
      record { the = _; is = under_at Frames timebase f past; fact = field-fact timebase some fields 3 (omega arith) past (under-3 timebase fields a b c) }

  at-seconds : h < 24 → m < 60 → (s < 60 → Is (under Frames timebase f)) → Is (leftmost (under Seconds 60 s) (under Frames timebase f))
  at-seconds a b then = by (dec_lt s 60)
    where
      by : Dec (s < 60) → Is (leftmost (under Seconds 60 s) (under Frames timebase f))
      by (yes c) = subst (λ (u : Option Fault). Is (leftmost u (under Frames timebase f))) (sym (under-not Seconds 60 s c)) (then c)
      by (no c) = record {
        the = _;
        is = ap (λ (u : Option Fault). leftmost u (under Frames timebase f)) (under_at Seconds 60 s (omega arith));
        fact = field-fact timebase some fields 2 (omega arith) (omega arith) (under-2 timebase fields a b);
      }

  abbrev from-seconds : Option Fault
  from-seconds = leftmost (under Seconds 60 s) (under Frames timebase f)

  at-minutes : h < 24 → (m < 60 → Is from-seconds) → Is (leftmost (under Minutes 60 m) from-seconds)
  at-minutes a then = by (dec_lt m 60)
    where
      by : Dec (m < 60) → Is (leftmost (under Minutes 60 m) from-seconds)
      by (yes b) = subst (λ (u : Option Fault). Is (leftmost u from-seconds)) (sym (under-not Minutes 60 m b)) (then b)
      by (no b) = record {
        the = _;
        is = ap (λ (u : Option Fault). leftmost u from-seconds) (under_at Minutes 60 m (omega arith));
        fact = field-fact timebase some fields 1 (omega arith) (omega arith) (under-1 timebase fields a);
      }

  abbrev from-minutes : Option Fault
  from-minutes = leftmost (under Minutes 60 m) from-seconds

  at-hours : (h < 24 → Is from-minutes) → Is (leftmost (under Hours 24 h) from-minutes)
  at-hours then = by (dec_lt h 24)
    where
      by : Dec (h < 24) → Is (leftmost (under Hours 24 h) from-minutes)
      by (yes a) = subst (λ (u : Option Fault). Is (leftmost u from-minutes)) (sym (under-not Hours 24 h a)) (then a)
      by (no a) = record {
        the = _;
        is = ap (λ (u : Option Fault). leftmost u from-minutes) (under_at Hours 24 h (omega arith));
        fact = field-fact timebase some fields 0 (omega arith) (omega arith) (λ j k. absurd (omega arith));
      }

  -- a label that is not strict has one
  pub strict-found : length fields ≡ 4 → ¬ ((h < 24) × Strict timebase fields) → Is (strict_fault timebase fields)
  unfolding strict_fault
  strict-found four never =
      at-hours (λ a. at-minutes a (λ b. at-seconds a b (λ c. at-frames a b c (past a b c (dec_lt f timebase)))))
    where
      past : h < 24 → m < 60 → s < 60 → Dec (f < timebase) → timebase ≤ f
      past a b c (yes d) = absurd (never (a, record { four = four; minutes = b; seconds = c; frames = d }))
      past a b c (no d) = omega arith

-- ---- with the sign before all
found-by : (rate : ℕ) (fields : List ℕ) → 0 < (rate_row rate).timebase → (t : Bool) → length fields ≡ 4
    → (t ≡ false → ¬ ((hours_in fields < 24) × Strict (rate_row rate).timebase fields))
    → FoundFact (position_fault rate t fields) (rate_row rate).timebase t fields
unfolding position_fault
found-by rate fields some true four never = record { the = fault Sign false 0 0; is = refl; fact = sign refl refl }
found-by rate fields some false four never = strict-found (rate_row rate).timebase fields some four (never refl)

-- ---- of a text
pub fourteen-holds : (l : List ℕ) (stated : Option ℕ) (rate : ℕ) → stated ≡ None → 0 < (rate_row rate).timebase → NotStrictText l rate → FactHolds l stated rate 14 (fact_by 14 rate stated (shape_of stated l))
fourteen-holds l stated rate unstated some x = by x.minus refl
  where
    shown : fact_by 14 rate stated (shape_of stated l) ≡ limit_from (position_fault rate x.minus x.fields)
    shown =
        ap (fact_by 14 rate stated) (label-shape l stated x.minus x.fields unstated x.text)
        ∙ label-fourteen 14 rate x.minus x.fields refl

    holds : FoundFact (position_fault rate x.minus x.fields) (rate_row rate).timebase x.minus x.fields
        → FactHolds l stated rate 14 (fact_by 14 rate stated (shape_of stated l))
    holds k = subst (FactHolds l stated rate 14) (sym (shown ∙ ap limit_from k.is)) (not-strict x.text k.fact)

    by : (t : Bool) → x.minus ≡ t → FactHolds l stated rate 14 (fact_by 14 rate stated (shape_of stated l))
    by t e =
        holds
        (subst (λ (k : Bool). FoundFact (position_fault rate k x.fields) (rate_row rate).timebase k x.fields) (sym e)
        (found-by rate x.fields some t (four-fields l x.minus x.fields x.text)
        (λ u o. x.not-strict (record { unsigned = e ∙ u; hours = o.0; strict = o.1 }))))
