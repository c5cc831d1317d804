-- The causes of refusals and their numbers (BEHAVIOUR: Refusals).
-- Assumes nothing.
use Rattle.std.specs.Prelude.{ℕ, ◌-◌, List, [], ◌∷◌, get_or}
use Rattle.answers.specs.declared.Cause.{Cause}
use Rattle.answers.specs.declared.Cause.TheVariants.{NoShape, TooLong, DroppedLabel, NoPerfField, OutOfBounds, NoSuch, ZeroDivisor, NoRoom, NoSuchKind, CutShort, NoRateYet, EndBeforeFirst, NotOnFilm, NotStrict, WrongKind, BrokenDirectory, PastDay}
use Rattle.answers.specs.declared.Refusal.{Refusal}

-- the causes in the order of their numbers, from 1 on
abbrev pub causes : List Cause
causes =
    NoShape ∷ TooLong ∷ DroppedLabel ∷ NoPerfField ∷ OutOfBounds ∷ NoSuch ∷ ZeroDivisor ∷ NoRoom ∷ NoSuchKind ∷ CutShort ∷ NoRateYet ∷ EndBeforeFirst ∷ NotOnFilm ∷ NotStrict ∷ WrongKind ∷ BrokenDirectory ∷ PastDay ∷ []

-- the number of a cause
abbrev pub cause_number : Cause → ℕ
cause_number NoShape = 1
cause_number TooLong = 2
cause_number DroppedLabel = 3
cause_number NoPerfField = 4
cause_number OutOfBounds = 5
cause_number NoSuch = 6
cause_number ZeroDivisor = 7
cause_number NoRoom = 8
cause_number NoSuchKind = 9
cause_number CutShort = 10
cause_number NoRateYet = 11
cause_number EndBeforeFirst = 12
cause_number NotOnFilm = 13
cause_number NotStrict = 14
cause_number WrongKind = 15
cause_number BrokenDirectory = 16
cause_number PastDay = 17

-- the number of a refusal
abbrev pub refusal_number : Refusal → ℕ
refusal_number e = cause_number e.cause

-- a cause without a place in a text: its place is 0
abbrev pub without_place : Cause → Refusal
without_place cause = record { cause = cause; place = 0 }

-- the refusal of a number, 1 to 17, without a place
abbrev pub refusal : ℕ → Refusal
refusal n = without_place (get_or causes (n - 1) PastDay)
