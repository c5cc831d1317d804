-- Laws of making a position (BEHAVIOUR: Positions): what it comes to, that it is of the day, and that refusals stay before it.
-- Assumes nothing.
use Rattle.std.specs.Prelude.{ℕ, ◌<◌, ◌≡◌, refl, true, false, List, [], ◌∷◌, T, ℤ, Ok, Err}
use Rattle.std.proofs.Common.{sym, ◌∙◌, subst, arith}
use Rattle.std.proofs.Math.Path.{ap}
use borrow.Author.Tests.{lt-ltb}
use Rattle.std.proofs.Math.IntN.{pos}
use Rattle.numbers.specs.Modulo.{reduced_z}
use Rattle.numbers.specs.ModuloLaws.{reduced-up, reduced-is-one}
use Rattle.answers.specs.Order.{Condition, unless}
use Rattle.answers.specs.OrderLaws.{unless-map}
use Rattle.answers.specs.Refusals.{is_count, bad_count, held}
use Rattle.rates.specs.Rates.{is_rate}
use Rattle.rates.specs.Day.{day_frames}
use Rattle.rates.proofs.Days.{day-pos}
use Rattle.timecodes.specs.declared.kinds.Kind.{Kind}
use Rattle.timecodes.specs.declared.kinds.Kind.TheVariants.{Length, Position}
use Rattle.timecodes.specs.Kinds.{is_position}
use Rattle.timecodes.specs.Timecode.{timecode_as, timecode, placed}
use Rattle.timecodes.specs.Made.{OfDay, in_day, made, settled}
use Rattle.timecodes.specs.Admitted.{is_of_day, Valid}
use Rattle.timecodes.specs.AdmittedLaws.{placed-held}

-- ---- the number of the day
module _ (rate : ℕ) (h : is_rate rate ≡ true) where
  pub in_day-is : (count : ℤ) → OfDay rate count (in_day rate count)
  unfolding in_day
  in_day-is count = record { number = reduced_z count (day_frames rate); is = refl; reduced = reduced-up count (day_frames rate) (day-pos rate h) }

  pub in_day-one : (count z : ℤ) → OfDay rate count z → z ≡ in_day rate count
  unfolding in_day
  in_day-one count z o = o.is ∙ ap pos (sym (reduced-is-one count (day_frames rate) o.number (day-pos rate h) o.reduced))

  -- a number of the day is its own
  pub in_day-own : (n : ℕ) → n < day_frames rate → in_day rate (pos n) ≡ pos n
  in_day-own n l = sym (in_day-one (pos n) (pos n) (record { number = n; is = refl; reduced = record { under = l; times = pos 0; whole = ap pos (omega arith) } }))

  -- what is made lies in the day
  pub in_day-under : (count : ℤ) → is_of_day rate (in_day rate count) ≡ true
  unfolding in_day is_of_day
  in_day-under count = lt-ltb (reduced_z count (day_frames rate)) (day_frames rate) (reduced-up count (day_frames rate) (day-pos rate h)).under

  -- a number of the day is of it
  pub under-day : (n : ℕ) → n < day_frames rate → is_of_day rate (pos n) ≡ true
  unfolding is_of_day
  under-day n l = lt-ltb n (day_frames rate) l

-- ---- what is made
pub made-rate : (kind : Kind) (count : ℤ) (rate : ℕ) → (made kind count rate).rate ≡ rate
made-rate Length count rate = refl
made-rate Position count rate = refl

pub made-kind : (kind : Kind) (count : ℤ) (rate : ℕ) → (made kind count rate).kind ≡ kind
made-kind Length count rate = refl
made-kind Position count rate = refl

-- by kind
pub made-length : (kind : Kind) (count : ℤ) (rate : ℕ) → is_position kind ≡ false → made kind count rate ≡ timecode_as kind count rate
made-length Length count rate e = refl
made-length Position count rate e = absurd (subst T e tt)

pub made-position : (kind : Kind) (count : ℤ) (rate : ℕ) → is_position kind ≡ true → made kind count rate ≡ timecode_as kind (in_day rate count) rate
made-position Length count rate e = absurd (subst T (sym e) tt)
made-position Position count rate e = refl

pub made-valid : (kind : Kind) (count : ℤ) (rate : ℕ) → is_rate rate ≡ true → is_count count ≡ true → Valid (made kind count rate)
made-valid Length count rate h c = record { rate = h; within = c }
made-valid Position count rate h c = record { rate = h; within = in_day-under rate h count }

-- ---- refusals stay before it
pub settled-unless : (kind : Kind) (conditions : List Condition) (count : ℤ) (rate : ℕ)
    → settled kind (unless Err conditions (Ok (timecode count rate))) ≡ unless Err conditions (Ok (made kind count rate))
settled-unless kind conditions count rate = unless-map (settled kind) Err Err (λ e. refl) conditions (Ok (timecode count rate))

pub settled-held : (kind : Kind) (rate : ℕ) (count : ℤ)
    → settled kind (placed rate (held count)) ≡ unless Err (bad_count count ∷ []) (Ok (made kind count rate))
settled-held kind rate count = ap (settled kind) (placed-held rate count) ∙ settled-unless kind (bad_count count ∷ []) count rate
