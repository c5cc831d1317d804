-- Hours, minutes and seconds, as labels and runtimes begin with them (BEHAVIOUR: Labels and counts, Time).
-- Assumes nothing.
use Rattle.std.specs.Prelude.{ℕ, List, ◌++◌, Bool}
use Rattle.written.specs.Parts.{padded_text, field_text}

-- two digits at least for each field, `:` between them; the sign in front
unfoldable pub clock_text : (minus : Bool) (hours minutes seconds : ℕ) → List ℕ
clock_text minus hours minutes seconds = padded_text minus 2 hours ++ (field_text 58 minutes ++ field_text 58 seconds)
