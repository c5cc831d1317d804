-- Reading a length or a position (BEHAVIOUR: Positions): 14 of a label, then what a length's reading gives, reduced by whole days for a position.
-- Assumes nothing.
use Rattle.answers.specs.declared.Refusal.{Refusal}
use Rattle.faults.specs.declared.Fault.{Fault}
use Rattle.std.specs.Prelude.{ℕ, Bool, true, not, ◌&&◌, List, [], ◌∷◌, ◌++◌, Option, None, Ok, Err, Result}
use Rattle.answers.specs.Order.{Condition, when, unless}
use Rattle.answers.specs.Refusals.{not_strict}
use Rattle.rates.specs.Rates.{rate_row}
use Rattle.timecodes.specs.declared.kinds.Kind.{Kind}
use Rattle.timecodes.specs.declared.kinds.Kind.TheVariants.{Length, Position}
use Rattle.timecodes.specs.Made.{made}
use Rattle.faults.specs.Faults.{sign_fault, leftmost}
use Rattle.labels.specs.Label.{is_strict}
use Rattle.labels.specs.Faults.{strict_fault}
use Rattle.reading.specs.declared.Read.{Read}
use Rattle.reading.specs.declared.Read.TheVariants.{Label, Footage}
use Rattle.reading.specs.Shaped.{Shaped, label, footage, refused, shape_of, label_only}
use Rattle.reading.specs.Reading.{read_shaped, read_when, read_text}

-- what was read as a length, made a timecode of a kind; what is refused stays so
abbrev pub settled_read : Kind → Result Read Refusal → Result Read Refusal
settled_read kind (Ok (Label tc)) = Ok (Label (made kind tc.count tc.rate))
settled_read kind (Ok (Footage tc format)) = Ok (Footage (made kind tc.count tc.rate) format)
settled_read kind (Err e) = Err e

-- any label may be a length's; a position's is unsigned and strict: hours under 24, minutes and seconds under 60, frames under the timebase
abbrev pub is_label_of : Kind → (rate : ℕ) (minus : Bool) (fields : List ℕ) → Bool
is_label_of Length rate minus fields = true
is_label_of Position rate minus fields = not minus && is_strict (rate_row rate).timebase fields

-- what is at fault in it: its sign, or else the leftmost field
unfoldable pub position_fault : (rate : ℕ) (minus : Bool) (fields : List ℕ) → Option Fault
position_fault rate minus fields = leftmost (sign_fault minus) (strict_fault (rate_row rate).timebase fields)

-- 14: a label of a position that is not strict or has a sign; only labels get it
abbrev pub strict_when : Kind → (rate : ℕ) → Shaped → List Condition
strict_when kind rate (label minus fields) = when not_strict (not (is_label_of kind rate minus fields)) ∷ []
strict_when kind rate (footage minus feet frames perf marker) = []
strict_when kind rate (refused e) = []

-- what was taken by its shape: 14, then what a length's reading gives
unfoldable pub shaped_for : Kind → (rate : ℕ) → Option ℕ → Shaped → Result Read Refusal
shaped_for kind rate stated shaped = unless Err (strict_when kind rate shaped) (settled_read kind (read_shaped rate stated shaped))

-- the same behind 6: no such rate or film format
unfoldable pub read_by : Kind → Option ℕ → (rate : ℕ) → Shaped → Result Read Refusal
read_by kind stated rate shaped = unless Err (read_when stated rate) (shaped_for kind rate stated shaped)

-- of a text: 6, no such rate or film format; 14, which is after 1, 2 and 4 since only a text that is taken for a label gets it, and before 3; then what
-- a length's reading gives
unfoldable pub read_for : Kind → (text : List ℕ) → Option ℕ → (rate : ℕ) → Result Read Refusal
read_for kind text stated rate =
    unless Err (read_when stated rate ++ strict_when kind rate (shape_of stated text)) (settled_read kind (read_text text stated rate))

-- of a text where only a label may stand, no film format stated
unfoldable pub label_for : Kind → (text : List ℕ) → (rate : ℕ) → Result Read Refusal
label_for kind text rate = read_by kind None rate (label_only text)
