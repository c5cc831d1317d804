-- What is told of the leftmost fault of a label (BEHAVIOUR: Why): there is none just where the label is strict.
-- Assumes nothing.
use Rattle.faults.specs.declared.Fault.{Fault}
use Rattle.std.specs.Prelude.{ℕ, ◌≡◌, Bool, ◌&&◌, List, Option}
use Rattle.std.proofs.Common.{ap₂, ◌∙◌}
use Rattle.faults.specs.declared.Field.TheVariants.{Hours, Minutes, Seconds, Frames}
use Rattle.faults.specs.Faults.{is_none, under, leftmost}
use Rattle.faults.specs.FaultLaws.{under_none, leftmost-none}
use Rattle.labels.specs.Label.{hours_in, minutes_in, seconds_in, frames_in, is_strict}
use Rattle.labels.specs.Faults.{strict_fault}

-- of two, none has a fault just where each has none
both : (left right : Option Fault) (s t : Bool) → is_none left ≡ s → is_none right ≡ t → is_none (leftmost left right) ≡ (s && t)
both left right s t e f = leftmost-none left right ∙ ap₂ ◌&&◌ e f

pub strict_fault-none : (timebase : ℕ) (fields : List ℕ) → is_none (strict_fault timebase fields) ≡ is_strict timebase fields
unfolding strict_fault is_strict
strict_fault-none timebase fields =
    let h = under Hours 24 (hours_in fields) in
    let m = under Minutes 60 (minutes_in fields) in
    let s = under Seconds 60 (seconds_in fields) in
    let f = under Frames timebase (frames_in fields) in
    both h (leftmost m (leftmost s f)) _ _ (under_none Hours 24 (hours_in fields))
    (both m (leftmost s f) _ _ (under_none Minutes 60 (minutes_in fields))
    (both s f _ _ (under_none Seconds 60 (seconds_in fields)) (under_none Frames timebase (frames_in fields))))
