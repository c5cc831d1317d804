-- How the calculator shows the shards that a query asks (docs/ASK.md): `FIRST AFTER`, or `refused N PLACE`, part by part.
-- Assumes nothing.
use Rattle.answers.specs.declared.Refusal.{Refusal}
use Rattle.router.specs.declared.Shards.{Shards}
use Rattle.answers.specs.Causes.{refusal_number}
use Rattle.std.specs.Prelude.{ℕ, List, [], ◌∷◌, ◌++◌, false, Err, Ok, Result}
use Rattle.written.specs.Parts.{signed_text}
use Rattle.streams.specs.Sheet.{Sheet}
use Rattle.laws.specs.Spelt.{spelt}
use Rattle.showing.specs.Why.{joined, puts_on, spaced_parts}

-- two numbers from 0 on, and a space between them
unfoldable pub shards_parts : (first after : ℕ) → List (List ℕ)
shards_parts first after = signed_text false first ∷ spaced_parts false after

-- or the refusal, with its place in the text
abbrev pub routed_parts : Result Shards Refusal → List (List ℕ)
routed_parts (Ok shards) = shards_parts shards.first shards.after
routed_parts (Err e) = spelt "refused " ∷ signed_text false (refusal_number e) ∷ spaced_parts false e.place

-- and the line's end
abbrev pub line_parts : Result Shards Refusal → List (List ℕ)
line_parts a = routed_parts a ++ ((10 ∷ []) ∷ [])

unfoldable pub routed_text : Result Shards Refusal → List ℕ
routed_text a = joined (line_parts a)

unfoldable pub routed_on : Sheet → Result Shards Refusal → Sheet
routed_on s a = puts_on s (line_parts a)
