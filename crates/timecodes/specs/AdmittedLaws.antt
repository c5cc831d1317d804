-- What the admission of a timecode tells, and what follows where it is admitted (BEHAVIOUR: Refusals).
-- Assumes nothing.
use Rattle.std.specs.Prelude.{◌≡◌, refl, true, false, not, List, [], ◌∷◌, ◌++◌, ℕ, ◌≤◌, ◌<◌, T, ltb, ℤ, nat_abs, Result, Ok, Err}
use Rattle.std.proofs.Common.{sym, ◌∙◌, ap, subst, arith, leb-true, le-leb, ltb-true}
use Rattle.std.proofs.Math.Bool.{and-eq-true_iff}
use Rattle.numbers.specs.Sign.{is_neg}
use Rattle.answers.specs.declared.Refusal.{Refusal}
use Rattle.answers.specs.Order.{Condition, unless, judged, Clear}
use Rattle.answers.specs.OrderLaws.{judged-refused, judged-clear, unless-map, unless-append, unless-clear, unless-told, not_in, not-out, in-not}
use Rattle.answers.specs.Refusals.{most_count, is_count, bad_count, held}
use Rattle.rates.specs.Day.{day_frames}
use Rattle.rates.proofs.Days.{day-le}
use Rattle.timecodes.specs.declared.Timecode.{Timecode}
use Rattle.timecodes.specs.declared.kinds.Kind.{Kind}
use Rattle.timecodes.specs.declared.kinds.Kind.TheVariants.{Length, Position}
use Rattle.timecodes.specs.declared.kinds.Joining.{Joining}
use Rattle.timecodes.specs.Kinds.{is_position, mixed_kinds, is_never}
use Rattle.timecodes.specs.Timecode.{timecode, moved, placed, moved_to}
use Rattle.timecodes.specs.Admitted.{is_of_day, is_within, admits, admits_length, admits_both, Valid}

-- ---- an admitted timecode is valid, and a valid one is admitted

pub admits-valid : (tc : Timecode) → Clear (admits tc) → Valid tc
admits-valid tc h = record { rate = not_in _ h.0; within = not_in _ h.1.0 }

pub valid-admits : (tc : Timecode) → Valid tc → Clear (admits tc)
valid-admits tc v = (in-not v.rate, (in-not v.within, tt))

-- one for lengths only is a length
length-told : (kind : Kind) → is_position kind ≡ false → kind ≡ Length
length-told Length e = refl
length-told Position e = absurd (subst T e tt)

pub admits_length-valid : (tc : Timecode) → Clear (admits_length tc) → Valid tc
admits_length-valid tc h = record { rate = not_in _ h.0; within = not_in _ h.1.1.0 }

pub admits_length-length : (tc : Timecode) → Clear (admits_length tc) → tc.kind ≡ Length
admits_length-length tc h = length-told tc.kind h.1.0

pub valid-admits_length : (tc : Timecode) → Valid tc → tc.kind ≡ Length → Clear (admits_length tc)
valid-admits_length tc v e = (in-not v.rate, (ap is_position e, (in-not v.within, tt)))

-- two are valid, and are mixed
pub admits_both-left : (joining : Joining) (a b : Timecode) → Clear (admits_both joining a b) → Valid a
admits_both-left joining a b h = record { rate = not_in _ h.0; within = not_in _ h.1.1.1.0 }

pub admits_both-right : (joining : Joining) (a b : Timecode) → Clear (admits_both joining a b) → Valid b
admits_both-right joining a b h = record { rate = not_in _ h.1.0; within = not_in _ h.1.1.1.1.0 }

pub valid-admits_both : (joining : Joining) (a b : Timecode) → Valid a → Valid b → is_never (mixed_kinds joining a.kind b.kind) ≡ false
    → Clear (admits_both joining a b)
valid-admits_both joining a b v w m =
    (in-not v.rate, (in-not w.rate, (m, (in-not v.within, (in-not w.within, tt)))))

-- ---- the bounds

-- a number of the day is no more than a count may be
pub of_day-told : (rate : ℕ) (count : ℤ) → is_of_day rate count ≡ true → (is_neg count ≡ false) × (nat_abs count < day_frames rate)
unfolding is_of_day
of_day-told rate count h =
    let both = (and-eq-true_iff (not (is_neg count)) (ltb (nat_abs count) (day_frames rate))).0 h in
    (not-out (is_neg count) both.0, ltb-true (nat_abs count) (day_frames rate) both.1)

-- each kind has its own bounds
pub within-length : (kind : Kind) (rate : ℕ) (count : ℤ) → is_position kind ≡ false → is_within kind rate count ≡ is_count count
within-length Length rate count e = refl
within-length Position rate count e = absurd (subst T e tt)

pub within-position : (kind : Kind) (rate : ℕ) (count : ℤ) → is_position kind ≡ true → is_within kind rate count ≡ is_of_day rate count
within-position Length rate count e = absurd (subst T (sym e) tt)
within-position Position rate count e = refl

pub within-count-le : (kind : Kind) (rate : ℕ) (count : ℤ) → is_within kind rate count ≡ true → nat_abs count ≤ most_count
within-count-le Length rate count h = leb-true (nat_abs count) most_count h
within-count-le Position rate count h = omega (arith, (of_day-told rate count h).1, day-le rate)

pub valid-count-le : (tc : Timecode) → Valid tc → nat_abs tc.count ≤ most_count
valid-count-le tc v = within-count-le tc.kind tc.rate tc.count v.within

-- so of either kind it is within a count's bounds
pub valid-count : (tc : Timecode) → Valid tc → is_count tc.count ≡ true
valid-count tc v = le-leb (nat_abs tc.count) most_count (valid-count-le tc v)

-- ---- a count's conditions are the timecode's

pub placed-unless : (rate : ℕ) (conditions : List Condition) (count : ℤ)
    → placed rate (unless Err conditions (Ok count)) ≡ unless Err conditions (Ok (timecode count rate))
placed-unless rate conditions count = unless-map (placed rate) Err Err (λ e. refl) conditions (Ok count)

pub moved-unless : (tc : Timecode) (rate : ℕ) (conditions : List Condition) (count : ℤ)
    → moved_to tc rate (unless Err conditions (Ok count)) ≡ unless Err conditions (Ok (moved tc count rate))
moved-unless tc rate conditions count = unless-map (moved_to tc rate) Err Err (λ e. refl) conditions (Ok count)

-- a held count, as a timecode
pub placed-held : (rate : ℕ) (count : ℤ) → placed rate (held count) ≡ unless Err (bad_count count ∷ []) (Ok (timecode count rate))
unfolding held
placed-held rate count = placed-unless rate (bad_count count ∷ []) count

pub moved-held : (tc : Timecode) (rate : ℕ) (count : ℤ) → moved_to tc rate (held count) ≡ unless Err (bad_count count ∷ []) (Ok (moved tc count rate))
unfolding held
moved-held tc rate count = moved-unless tc rate (bad_count count ∷ []) count

-- ---- an operation: its timecodes are admitted, then counts are worked on

-- what is admitted is counted, behind more conditions
pub operated : (conditions more : List Condition) (tc : Timecode) (rate : ℕ) (count : ℤ) → judged conditions ≡ (Ok tt)
    → moved_to tc rate (unless Err more (Ok count)) ≡ unless Err (conditions ++ more) (Ok (moved tc count rate))
operated conditions more tc rate count h =
    moved-unless tc rate more count
    ∙ sym
    (unless-append Err conditions more (Ok (moved tc count rate))
    ∙ unless-clear Err conditions (unless Err more (Ok (moved tc count rate))) (judged-clear conditions h))

-- what is not admitted is refused, whatever comes behind
pub not-operated : (conditions more : List Condition) (answer : Result Timecode Refusal) (e : Refusal) → judged conditions ≡ Err e
    → unless Err (conditions ++ more) answer ≡ Err e
not-operated conditions more answer e h =
    unless-append Err conditions more answer ∙ judged-refused conditions e h Err (unless Err more answer)

-- ---- what an answer tells

-- a timecode is no refusal
pub at-apart : (tc : Timecode) (e : Refusal) → Err e ≡ Ok tc → ⊥
at-apart tc e h = let clash : ◌≡◌ {A = ℕ} 0 1 = cc in omega arith

-- an answered timecode tells that no condition held, and is the answer
pub at_told : (conditions : List Condition) (tc end : Timecode) → unless Err conditions (Ok tc) ≡ Ok end → Clear conditions × (tc ≡ end)
at_told conditions tc end h =
    let told = unless-told Err conditions (Ok tc) (Ok end) (at-apart end) h in
    let same = told.1 in
    (told.0, cc)
