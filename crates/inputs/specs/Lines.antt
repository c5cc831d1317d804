-- What a chunk leaves of the line that waits for its end (BEHAVIOUR: The line program).
-- Assumes nothing.
use Rattle.std.specs.Prelude.{ℕ, ◌≤◌, ◌≡◌, List, length, take, Result, MatchResult}
use Rattle.streams.specs.declared.gathered.Gathered.{Gathered}
use Rattle.streams.specs.Turns.{waiting, waiting_behind}

-- what waits behind the chunk; where an answer failed, in the buffer what waits behind some beginning of the chunk
abbrev pub Leaves : {A E : Type 0} → Result A E → (buffer : List ℕ) → Gathered → (chunk last : List ℕ) → Gathered → Type 0
Leaves result buffer g chunk last g' =
    MatchResult result
    (λ _. waiting last g' ≡ waiting_behind buffer g chunk)
    (λ _. (k : ℕ) × (k ≤ length chunk) × (last ≡ (waiting_behind buffer g (take k chunk)).buffer))
