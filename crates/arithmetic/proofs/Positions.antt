-- The statements of specs/PositionStatements.antt, proved: by what an answer tells, by the table of kinds, and by the number of the day.
-- Assumes nothing.
use Rattle.std.specs.Prelude.{Some, Result, Ok, Err}
use Prim.Native.Nat.{ℕ, ◌-◌, ◌≤◌, ◌<◌}
use native.Mathlib.Nat.{div-add-mod'}
use native.Mathlib.Omega.{arith}
use mathlib.Core.Path.{◌≡◌, refl, sym, ◌∙◌, ap, subst}
use mathlib.Core.Logic.{◌↔◌}
use mathlib.Core.Bool.{true, false}
use mathlib.Core.List.{List, [], ◌∷◌, ◌++◌}
use borrow.Author.Tests.{le-leb}
use lib.Dec.{T}
use lib.IntN.{ℤ, pos, negsuc, neg_ℤ, nat_abs, ◌+ℤ◌, ◌-ℤ◌, -ℤ-+ℤ_cancel, +ℤ_comm}
use Rattle.numbers.specs.DistanceLaws.{far}
use Rattle.numbers.specs.ModuloLaws.{reduced-in}
use Rattle.answers.specs.declared.Refusal.{Refusal}
use Rattle.answers.specs.Order.{Condition, unless, Clear}
use Rattle.answers.specs.OrderLaws.{unless-told, not_in, in-not}
use Rattle.answers.specs.Laws.{held_in}
use Rattle.answers.specs.Refusals.{most_count, is_count, held}
use Rattle.rates.specs.Rates.{is_rate, bad_rate}
use Rattle.rates.specs.Day.{day_frames}
use Rattle.rates.proofs.Days.{day-pos, day-le}
use Rattle.timecodes.specs.declared.Timecode.{Timecode}
use Rattle.timecodes.specs.declared.kinds.Kind.{Kind}
use Rattle.timecodes.specs.declared.kinds.Kind.TheVariants.{Length, Position}
use Rattle.timecodes.specs.declared.kinds.Joining.TheVariants.{Sum, Difference, Comparison}
use Rattle.timecodes.specs.Kinds.{is_position, mixed_kinds, is_never, kind_in}
use Rattle.timecodes.specs.Timecode.{timecode_as, timecode, position, recounted, moved, placed, number_of}
use Rattle.timecodes.specs.Made.{made, in_day, settled}
use Rattle.timecodes.specs.Admitted.{bad_input, admits_length, admits_both, Valid}
use Rattle.timecodes.specs.AdmittedLaws.{at_told, admits_length-valid, admits_length-length, admits_both-left, admits_both-right}
use Rattle.timecodes.specs.KindLaws.{below15, barred-exactly, position-exactly}
use Rattle.timecodes.specs.MadeLaws.{in_day-one, in_day-own, under-day}
use Rattle.timecodes.specs.Instant.{instant}
use Rattle.arithmetic.specs.Sum.{add_of, sub_of}
use Rattle.arithmetic.specs.Product.{product_when, mul_of}
use Rattle.arithmetic.specs.Divisor.{bad_divisor}
use Rattle.arithmetic.specs.Truncating.{div_of, rem_of}
use Rattle.arithmetic.specs.Flooring.{floored_when, divq_of}
use Rattle.arithmetic.specs.Remainder.{left_when, remq_of}
use Rattle.arithmetic.specs.Compare.{order_of, compare_of}
use Rattle.arithmetic.specs.Compare as compare
use Rattle.arithmetic.specs.Count.{neg_of, abs_of, rebase_of}
use Rattle.arithmetic.specs.PositionStatements.{SumKind, DifferenceKind, SumInDay, DifferenceInDay, SumExactAs, DifferenceExactAs}
use Rattle.arithmetic.specs.PositionStatements.{SumTakes, DifferenceTakes, CompareTakes, BothRates, SumRefused, DifferenceRefused, CompareRefused}
use Rattle.arithmetic.specs.PositionStatements.{PositionAtRate, LengthsOnly, LengthTo, LengthsAnswered, Midnight, ThereAgain}
use Rattle.arithmetic.proofs.Joining.{joined-kind, joined-in-day, joined-exact-as, joined-refused, joined-takes}

-- ---- what two come to

-- a length is no position
position-apart : Position ≡ Length → ⊥
position-apart e = let z : true ≡ false = ap is_position e in subst T z tt

-- each row of the table
sum_by : (a b end : Kind) → mixed_kinds Sum a b ≡ Some end → (end ≡ Length) ↔ ((a ≡ Length) × (b ≡ Length))
sum_by Length Length end e = (λ k. (refl, refl), λ k. sym (ap kind_in e))
sum_by Length Position end e = (λ k. absurd (position-apart (ap kind_in e ∙ k)), λ k. absurd (position-apart k.1))
sum_by Position Length end e = (λ k. absurd (position-apart (ap kind_in e ∙ k)), λ k. absurd (position-apart k.0))
sum_by Position Position end e = let z : true ≡ false = ap is_never e in absurd (subst T z tt)

difference-by : (a b end : Kind) → mixed_kinds Difference a b ≡ Some end → (end ≡ Length) ↔ (a ≡ b)
difference-by Length Length end e = (λ k. refl, λ k. sym (ap kind_in e))
difference-by Length Position end e = let z : true ≡ false = ap is_never e in absurd (subst T z tt)
difference-by Position Length end e = (λ k. absurd (position-apart (ap kind_in e ∙ k)), λ k. absurd (position-apart k))
difference-by Position Position end e = (λ k. refl, λ k. sym (ap kind_in e))

pub sum_kind : SumKind
sum_kind a b end h = sum_by a.kind b.kind end.kind (joined-kind false a b end h)

pub difference_kind : DifferenceKind
difference_kind a b end h = difference-by a.kind b.kind end.kind (joined-kind true a b end h)

pub sum_in_day : SumInDay
sum_in_day = joined-in-day false

pub difference_in_day : DifferenceInDay
difference_in_day = joined-in-day true

pub sum_exact_as : SumExactAs
sum_exact_as = joined-exact-as false

pub difference_exact_as : DifferenceExactAs
difference_exact_as = joined-exact-as true

-- ---- refusal 15

-- the two kinds are two
apart : {X : Type 0} → Length ≡ Position → X
apart e = absurd (position-apart (sym e))

-- each row of the table that is never mixed
sum-never : (a b : Kind) → (is_never (mixed_kinds Sum a b) ≡ true) ↔ ((a ≡ Position) × (b ≡ Position))
sum-never Length Length = (λ e. absurd (subst T (sym e) tt), λ h. apart h.0)
sum-never Length Position = (λ e. absurd (subst T (sym e) tt), λ h. apart h.0)
sum-never Position Length = (λ e. absurd (subst T (sym e) tt), λ h. apart h.1)
sum-never Position Position = (λ e. (refl, refl), λ h. refl)

difference-never : (a b : Kind) → (is_never (mixed_kinds Difference a b) ≡ true) ↔ ((a ≡ Length) × (b ≡ Position))
difference-never Length Length = (λ e. absurd (subst T (sym e) tt), λ h. apart h.1)
difference-never Length Position = (λ e. (refl, refl), λ h. refl)
difference-never Position Length = (λ e. absurd (subst T (sym e) tt), λ h. apart h.1)
difference-never Position Position = (λ e. absurd (subst T (sym e) tt), λ h. apart (sym h.0))

comparison-never : (a b : Kind) → (is_never (mixed_kinds Comparison a b) ≡ true) ↔ (¬ (a ≡ b))
comparison-never Length Length = (λ e. absurd (subst T (sym e) tt), λ h. absurd (h refl))
comparison-never Length Position = (λ e h. apart h, λ h. refl)
comparison-never Position Length = (λ e h. apart (sym h), λ h. refl)
comparison-never Position Position = (λ e. absurd (subst T (sym e) tt), λ h. absurd (h refl))

pub sum_takes : SumTakes
sum_takes = joined-takes false

pub difference_takes : DifferenceTakes
difference_takes = joined-takes true

pub compare_takes : CompareTakes
unfolding compare_of
compare_takes a b o h =
    let clear = (unless-told Err (admits_both Comparison a b) (Ok (order_of (instant a) (instant b))) (Ok o) none h).0 in
    (admits_both-left Comparison a b clear, admits_both-right Comparison a b clear)
  where
    none : (e : Refusal) → Err e ≡ Ok o → ⊥
    none e k = let clash : ◌≡◌ {A = ℕ} 0 1 = cc in omega arith

-- 15 behind two rates, and the kinds by their row
behind-rates : {X Y Z : Type 0} (a b : Timecode) → X ↔ (Clear (bad_rate a.rate ∷ bad_rate b.rate ∷ []) × Y) → Y ↔ Z → X ↔ (BothRates a b × Z)
behind-rates a b f g = (
  λ x. let c = f.0 x in ((not_in _ c.0.0, not_in _ c.0.1.0), g.0 c.1),
  λ z. f.1 ((in-not z.0.0, (in-not z.0.1, tt)), g.1 z.1),
)

pub sum_refused : SumRefused
sum_refused a b = behind-rates a b (joined-refused false a b) (sum-never a.kind b.kind)

pub difference_refused : DifferenceRefused
difference_refused a b = behind-rates a b (joined-refused true a b) (difference-never a.kind b.kind)

pub compare_refused : CompareRefused
unfolding compare_of
compare_refused a b =
    behind-rates a b
    (barred-exactly compare.number_of Err (λ e. refl) (bad_rate a.rate ∷ bad_rate b.rate ∷ []) (bad_input a ∷ bad_input b ∷ [])
    refl refl (Ok (order_of (instant a) (instant b))) refl (is_never (mixed_kinds Comparison a.kind b.kind)))
    (comparison-never a.kind b.kind)

-- an operation for lengths only, whatever comes behind its admission
only : (tc end : Timecode) (more : List Condition) → below15 more ≡ true
    → (number_of (unless Err (admits_length tc ++ more) (Ok end)) ≡ 15) ↔ PositionAtRate tc
only tc end more below =
    let x = position-exactly number_of Err (λ e. refl) (bad_rate tc.rate ∷ []) (bad_input tc ∷ more) refl below (Ok end) refl tc.kind in
    (λ e. let c = x.0 e in (not_in _ c.0.0, c.1), λ h. x.1 ((in-not h.0, tt), h.1))

rebased-only : (tc : Timecode) (rate : ℕ) → (number_of (rebase_of tc rate) ≡ 15) ↔ ((is_rate rate ≡ true) × PositionAtRate tc)
unfolding rebase_of
rebased-only tc rate =
    let x =
    position-exactly number_of Err (λ e. refl) (bad_rate rate ∷ bad_rate tc.rate ∷ []) (bad_input tc ∷ []) refl refl
    (Ok (moved tc tc.count rate)) refl tc.kind in
    (λ e. let c = x.0 e in (not_in _ c.0.0, (not_in _ c.0.1.0, c.1)), λ h. x.1 ((in-not h.0, (in-not h.1.0, tt)), h.1.1))

pub lengths_only : LengthsOnly
unfolding mul_of div_of rem_of divq_of remq_of neg_of abs_of
lengths_only =
    record {
      product = λ tc p q. only tc _ (product_when tc.count p q) refl;
      quotient = λ tc n. only tc _ (bad_divisor n ∷ []) refl;
      remainder = λ tc n. only tc _ (bad_divisor n ∷ []) refl;
      quotient_by = λ tc p q. only tc _ (floored_when tc.count p q) refl;
      remainder_by = λ tc p q. only tc _ (left_when tc.count p q) refl;
      negated = λ tc. only tc (recounted tc (neg_ℤ tc.count)) [] refl;
      absolute = λ tc. only tc (recounted tc (pos (nat_abs tc.count))) [] refl;
      rebased = rebased-only;
    }

-- ---- what is answered of a length

-- behind its admission and more
length_to : (tc end : Timecode) (more : List Condition) (z : ℤ) → unless Err (admits_length tc ++ more) (Ok (recounted tc z)) ≡ Ok end
    → LengthTo tc end z tc.rate
length_to tc end more z h =
    let told = at_told (admits_length tc ++ more) (recounted tc z) end h in
    let clear : Clear (admits_length tc) = (told.0.0, (told.0.1.0, (told.0.1.1.0, tt))) in
    let l = admits_length-length tc clear in
    record { taken = admits_length-valid tc clear; length = l; is = sym told.1 ∙ ap (λ (k : Kind). timecode_as k z tc.rate) l }

-- where its own count is not named
own-count : (tc end : Timecode) (z : ℤ) → LengthTo tc end z tc.rate → LengthTo tc end end.count tc.rate
own-count tc end z x =
    record {
      taken = x.taken;
      length = x.length;
      is = x.is ∙ ap (λ (y : ℤ). timecode y tc.rate) (sym (ap (λ (t : Timecode). t.count) x.is));
    }

rebased-to : (tc end : Timecode) (rate : ℕ) → rebase_of tc rate ≡ Ok end → LengthTo tc end tc.count rate
unfolding rebase_of
rebased-to tc end rate h =
    let told = at_told (bad_rate rate ∷ admits_length tc) (moved tc tc.count rate) end h in
    let clear : Clear (admits_length tc) = told.0.1 in
    let l = admits_length-length tc clear in
    record { taken = admits_length-valid tc clear; length = l; is = sym told.1 ∙ ap (λ (k : Kind). timecode_as k tc.count rate) l }

pub lengths_answered : LengthsAnswered
unfolding mul_of div_of rem_of divq_of remq_of neg_of abs_of
lengths_answered =
    record {
      product = λ tc end p q h. own-count tc end _ (length_to tc end (product_when tc.count p q) _ h);
      quotient = λ tc end n h. own-count tc end _ (length_to tc end (bad_divisor n ∷ []) _ h);
      remainder = λ tc end n h. own-count tc end _ (length_to tc end (bad_divisor n ∷ []) _ h);
      quotient_by = λ tc end p q h. own-count tc end _ (length_to tc end (floored_when tc.count p q) _ h);
      remainder_by = λ tc end p q h. own-count tc end _ (length_to tc end (left_when tc.count p q) _ h);
      negated = λ tc end h. length_to tc end [] (neg_ℤ tc.count) h;
      absolute = λ tc end h. length_to tc end [] (pos (nat_abs tc.count)) h;
      rebased = rebased-to;
    }

-- ---- the day

module _ (rate : ℕ) (h : is_rate rate ≡ true) where
  -- a number of the day is a valid position, and one within a day of 0 a valid length
  of_day : (n : ℕ) → n < day_frames rate → Valid (position (pos n) rate)
  of_day n l = record { rate = h; within = under-day rate h n l }

  within-day : (z : ℤ) → nat_abs z ≤ day_frames rate → is_count z ≡ true
  within-day z l = le-leb (nat_abs z) most_count (omega (arith, day-le rate))

  length-of : (z : ℤ) → nat_abs z ≤ day_frames rate → Valid (timecode z rate)
  length-of z l = record { rate = h; within = within-day z l }

  -- what is settled of a number within a day of 0
  settled-as : (kind : Kind) (z : ℤ) → nat_abs z ≤ day_frames rate → settled kind (placed rate (held z)) ≡ Ok (made kind z rate)
  settled-as kind z l = ap (λ (x : Result ℤ Refusal). settled kind (placed rate x)) (held_in z (within-day z l))

  -- the day itself is reduced to 0, and -1 to its last frame
  day-none : in_day rate (pos (day_frames rate)) ≡ pos 0
  day-none =
      sym (in_day-one rate h (pos (day_frames rate)) (pos 0)
      (record { number = 0; is = refl; reduced = record { under = day-pos rate h; times = pos 1; whole = ap pos (omega arith) } }))

  last_frame : in_day rate (negsuc 0) ≡ pos (day_frames rate - 1)
  unfolding in_day
  last_frame = ap pos (reduced-in (negsuc 0) (day_frames rate) (day-pos rate h) ∙ omega (arith, div-add-mod' 0 (day_frames rate)))

  -- one frame on from the last, either way round
  over : (z : ℤ) → z ≡ pos (day_frames rate) → settled Position (placed rate (held z)) ≡ Ok (position (pos 0) rate)
  over z e =
      ap (λ (y : ℤ). settled Position (placed rate (held y))) e
      ∙ settled-as Position (pos (day_frames rate)) (omega arith)
      ∙ ap (λ (y : ℤ). Ok (position y rate)) day-none

  abbrev final : Timecode
  final = position (pos (day_frames rate - 1)) rate

  final-valid : Valid final
  final-valid = of_day (day_frames rate - 1) (omega (arith, day-pos rate h))

  one-valid : Valid (timecode (pos 1) rate)
  one-valid = length-of (pos 1) (omega (arith, day-pos rate h))

  day-forth : add_of final (timecode (pos 1) rate) ≡ Ok (position (pos 0) rate)
  day-forth =
      sum_exact_as final (timecode (pos 1) rate) final-valid one-valid refl Position refl
      ∙ over (pos (day_frames rate - 1) +ℤ pos 1) (ap pos (omega (arith, day-pos rate h)))

  day-turned : add_of (timecode (pos 1) rate) final ≡ Ok (position (pos 0) rate)
  day-turned =
      sum_exact_as (timecode (pos 1) rate) final one-valid final-valid refl Position refl
      ∙ over (pos 1 +ℤ pos (day_frames rate - 1)) (ap pos (omega (arith, day-pos rate h)))

  day-back : sub_of (position (pos 0) rate) (timecode (pos 1) rate) ≡ Ok final
  day-back =
      difference_exact_as (position (pos 0) rate) (timecode (pos 1) rate) (of_day 0 (day-pos rate h)) one-valid refl Position refl
      ∙ settled-as Position (negsuc 0) (omega (arith, day-pos rate h))
      ∙ ap (λ (y : ℤ). Ok (position y rate)) last_frame

  -- ---- there and back again
  module _ (p q : ℕ) (k : p < day_frames rate) (l : q < day_frames rate) where
    between : nat_abs (pos p -ℤ pos q) ≤ day_frames rate
    between = omega (arith, far p q)

    there : sub_of (position (pos p) rate) (position (pos q) rate) ≡ Ok (timecode (pos p -ℤ pos q) rate)
    there =
        difference_exact_as (position (pos p) rate) (position (pos q) rate) (of_day p k) (of_day q l) refl Length refl
        ∙ settled-as Length (pos p -ℤ pos q) between

    again : add_of (position (pos q) rate) (timecode (pos p -ℤ pos q) rate) ≡ Ok (position (pos p) rate)
    again =
        let sum : pos q +ℤ (pos p -ℤ pos q) ≡ pos p = +ℤ_comm (pos q) (pos p -ℤ pos q) ∙ -ℤ-+ℤ_cancel (pos p) (pos q) in
        sum_exact_as (position (pos q) rate) (timecode (pos p -ℤ pos q) rate) (of_day q l) (length-of (pos p -ℤ pos q) between) refl Position refl
        ∙ ap (λ (z : ℤ). settled Position (placed rate (held z))) sum
        ∙ settled-as Position (pos p) (omega arith)
        ∙ ap (λ (z : ℤ). Ok (position z rate)) (in_day-own rate h p k)

pub midnight : Midnight
midnight = record { forth = day-forth; back = day-back; turned = day-turned }

pub there_again : ThereAgain
there_again rate p q h k l = (there rate h p q k l, again rate h p q k l)
