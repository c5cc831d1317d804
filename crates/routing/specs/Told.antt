-- What is told of a query (docs/ROUTING.md): a line with the shards to ask, or with the refusal.
-- Assumes nothing.
use Rattle.router.specs.declared.Shards.{Shards}
use Rattle.answers.specs.Causes.{refusal_number}
use Rattle.std.specs.Prelude.{ℕ, ◌-◌, List, [], ◌∷◌, ◌++◌, Bool, false, cond, leb, eqb, drop, Some, None, Err, Ok, Option, Result}
use Rattle.laws.specs.Spelt.{spelt}
use Rattle.answers.specs.declared.Refusal.{Refusal}
use Rattle.written.specs.Parts.{signed_text}
use Rattle.phrases.specs.Phrases.{phrase_of}
use Rattle.streams.specs.Pieces.{line_end}
use Rattle.router.specs.declared.many.Directory.{Directory}
use Rattle.router.specs.Tested.{routed_in}
use Rattle.routing.specs.declared.queries.Query.{Query}
use Rattle.routing.specs.Queries.{query_of}

-- ---- the shards
abbrev pub one_pieces : (first : ℕ) → List (List ℕ)
one_pieces first = spelt "shard " ∷ signed_text false first ∷ []

abbrev pub some_pieces : (first last : ℕ) → List (List ℕ)
some_pieces first last = spelt "shards " ∷ signed_text false first ∷ spelt " to " ∷ signed_text false last ∷ []

-- from the first up to the one after the last: none, one alone, or the first and the last
unfoldable pub which_pieces : (first after : ℕ) → List (List ℕ)
which_pieces first after =
    cond (leb after first) (spelt "no shard" ∷ [])
    (cond (eqb (after - first) 1) (one_pieces first) (some_pieces first (after - 1)))

unfoldable pub found_pieces : (reel first after : ℕ) → List (List ℕ)
found_pieces reel first after = which_pieces first after ++ (spelt " of reel " ∷ signed_text false reel ∷ line_end ∷ [])

-- ---- a refusal: its number, its place in the label, and the phrase of the number
unfoldable pub reason_pieces : Refusal → (phrase : List ℕ) → List (List ℕ)
reason_pieces e phrase =
    spelt "refused " ∷ signed_text false (refusal_number e) ∷ spelt " " ∷ signed_text false e.place ∷ spelt ": " ∷ phrase ∷ line_end ∷ []

abbrev pub refused_pieces : Refusal → List (List ℕ)
refused_pieces e = reason_pieces e (phrase_of (refusal_number e))

-- ---- an answer
abbrev pub routed_pieces : (reel : ℕ) → Result Shards Refusal → List (List ℕ)
routed_pieces reel (Ok shards) = found_pieces reel shards.first shards.after
routed_pieces reel (Err e) = refused_pieces e

-- a line that is no query
abbrev pub other_pieces : List (List ℕ)
other_pieces = (spelt "not understood: a query is LENGTH LABEL" ++ line_end) ∷ []

-- a line: what the router answers to the length and the label
abbrev pub asked_pieces : Directory → (reel : ℕ) (line : List ℕ) → Option Query → List (List ℕ)
asked_pieces d reel line (Some query) = routed_pieces reel (routed_in d query.length (drop query.label line))
asked_pieces d reel line None = other_pieces

-- a line; one that has more bytes than are kept is no query
unfoldable pub answer_pieces : Directory → (reel : ℕ) (line : List ℕ) (over : Bool) → List (List ℕ)
answer_pieces d reel line over = cond over other_pieces (asked_pieces d reel line (query_of line))
