-- The statements of specs/Statements.antt, proved.
-- Assumes nothing.
use Rattle.std.specs.Prelude.{Ok, Err}
use Prim.Native.Nat.{ℕ, ◌<◌}
use mathlib.Core.Path.{◌≡◌, refl, sym, ◌∙◌, ap, subst}
use mathlib.Core.List.{[], ◌∷◌}
use mathlib.Core.Bool.{false}
use lib.Dec.{T}
use lib.IntN.{ℤ, pos, negsuc, nat_abs}
use Rattle.numbers.specs.Sign.{is_neg}
use Rattle.answers.specs.Order.{judged}
use Rattle.answers.specs.OrderLaws.{judged-clear, unless-clear, not_in, in-not}
use Rattle.answers.specs.Refusals.{bad_count}
use Rattle.rates.specs.Day.{day_frames}
use Rattle.timecodes.specs.declared.Timecode.{Timecode}
use Rattle.timecodes.specs.declared.kinds.Kind.TheVariants.{Position}
use Rattle.timecodes.specs.Made.{OfDay, in_day, made}
use Rattle.timecodes.specs.Timecode.{timecode, position, timecode_of}
use Rattle.timecodes.specs.Admitted.{admits, Valid}
use Rattle.timecodes.specs.AdmittedLaws.{admits-valid, valid-admits, valid-count, of_day-told, at_told}
use Rattle.timecodes.specs.MadeLaws.{in_day-is, in_day-one, under-day, made-rate, made-kind, made-valid, settled-held}
use Rattle.timecodes.specs.Statements.{DayIs, DayOne, CountUnder, PositionWithin, LengthWithin, SettledPosition, SettledLength, SettledValid, KindChosen}

pub day_is : DayIs
day_is rate count h = in_day-is rate h count

pub day_one : DayOne
day_one rate count z h o = in_day-one rate h count z o

-- a number that is not below zero and whose size is below the day
under : (rate : ℕ) (count : ℤ) → is_neg count ≡ false → nat_abs count < day_frames rate → CountUnder (day_frames rate) count
under rate (pos n) e l = record { number = n; is = refl; under = l }
under rate (negsuc n) e l = absurd (subst T e tt)

-- admitted is valid
passed-valid : (tc : Timecode) → judged (admits tc) ≡ (Ok tt) → Valid tc
passed-valid tc h = admits-valid tc (judged-clear (admits tc) h)

valid-passed : (tc : Timecode) → Valid tc → judged (admits tc) ≡ (Ok tt)
valid-passed tc v = unless-clear Err (admits tc) (Ok tt) (valid-admits tc v)

pub position_within : PositionWithin
position_within rate count h = (
  λ p. let told = of_day-told rate count (passed-valid (position count rate) p).within in under rate count told.0 told.1,
  λ u.
      subst (λ (z : ℤ). judged (admits (position z rate)) ≡ (Ok tt)) (sym u.is)
      (valid-passed (position (pos u.number) rate) (record { rate = h; within = under-day rate h u.number u.under })),
)

pub length_within : LengthWithin
length_within rate count h = (
  λ p. (passed-valid (timecode count rate) p).within,
  λ c. valid-passed (timecode count rate) (record { rate = h; within = c }),
)

pub settled_position : SettledPosition
settled_position rate count z h = (
  λ e.
      let told = at_told (bad_count count ∷ []) (made Position count rate) (position z rate) (sym (settled-held Position rate count) ∙ e) in
      let is : in_day rate count ≡ z = ap (λ (t : Timecode). t.count) told.1 in
      (not_in _ told.0.0, subst (OfDay rate count) is (in_day-is rate h count)),
  λ x.
      settled-held Position rate count
      ∙ unless-clear Err (bad_count count ∷ []) (Ok (made Position count rate)) (in-not x.0, tt)
      ∙ ap (λ (y : ℤ). Ok (position y rate)) (sym (in_day-one rate h count z x.1)),
)

pub settled_length : SettledLength
settled_length rate (Ok count) = refl
settled_length rate (Err e) = refl

pub settled_valid : SettledValid
settled_valid kind tc end v l e =
    let is : made kind tc.count tc.rate ≡ end = ap timecode_of e in (
      subst Valid is (made-valid kind tc.count tc.rate v.rate (valid-count tc v)),
      sym (ap (λ (t : Timecode). t.kind) is) ∙ made-kind kind tc.count tc.rate,
      sym (ap (λ (t : Timecode). t.rate) is) ∙ made-rate kind tc.count tc.rate,
    )

pub kind_chosen : KindChosen
kind_chosen = (refl, refl)
