-- What is at fault in the label of a position (BEHAVIOUR: Why): the leftmost field that is not as a strict label of the day has it.
-- Assumes nothing.
use Rattle.faults.specs.declared.Fault.{Fault}
use Rattle.std.specs.Prelude.{ℕ, List, Option}
use Rattle.faults.specs.declared.Field.TheVariants.{Hours, Minutes, Seconds, Frames}
use Rattle.faults.specs.Faults.{under, leftmost}
use Rattle.labels.specs.Label.{hours_in, minutes_in, seconds_in, frames_in}

-- hours under 24, minutes and seconds under 60, frames under the timebase, from the left
unfoldable pub strict_fault : (timebase : ℕ) (fields : List ℕ) → Option Fault
strict_fault timebase fields =
    leftmost (under Hours 24 (hours_in fields))
    (leftmost (under Minutes 60 (minutes_in fields))
    (leftmost (under Seconds 60 (seconds_in fields)) (under Frames timebase (frames_in fields))))
