-- The shards that a query asks (BEHAVIOUR: Router): each shard looked at by itself.
-- Assumes nothing.
use Rattle.router.specs.declared.query.Frames.{Frames}
use Rattle.router.specs.Found.{shards}
use Rattle.answers.specs.declared.Refusal.{Refusal}
use Rattle.router.specs.declared.Shards.{Shards}
use Rattle.std.specs.Prelude.{ℕ, suc, max, min, List, [], ◌∷◌, Bool, cond, eqb, ltb, ℤ, Err, Ok, Result}
use Rattle.answers.specs.Causes.{refusal_number}
use Rattle.answers.specs.Order.{unless}
use Rattle.router.specs.Directory.{InShard, directory_when}
use Rattle.router.specs.Query.{InRange, range_of}

-- a frame lies both in shard i and in the range
pub record Common (firsts ends : List ℕ) (start end i frame : ℕ) : Type 0 where
  pub shard : InShard firsts ends i frame
  pub range : InRange start end frame

-- a shard is asked where it and the range have a frame in common: the later of their beginnings lies before the earlier of their ends
abbrev pub is_asked : (start end first behind : ℕ) → Bool
is_asked start end first behind = ltb (max first start) (min behind end)

-- how many shards stand before the first that is asked
unfoldable pub first_asked : (start end : ℕ) (firsts ends : List ℕ) → ℕ
first_asked start end [] ends = 0
first_asked start end (f ∷ firsts) [] = 0
first_asked start end (f ∷ firsts) (e ∷ ends) = cond (is_asked start end f e) 0 (suc (first_asked start end firsts ends))

-- and up to the last that is asked, with it; 0 where none is
unfoldable pub after_asked : (start end : ℕ) (firsts ends : List ℕ) → ℕ
after_asked start end [] ends = 0
after_asked start end (f ∷ firsts) [] = 0
after_asked start end (f ∷ firsts) (e ∷ ends) =
    cond (eqb (after_asked start end firsts ends) 0) (cond (is_asked start end f e) 1 0) (suc (after_asked start end firsts ends))

-- the first shard and the one after the last that must be asked, both 0 where there is none
unfoldable pub asked_span : (start end : ℕ) (firsts ends : List ℕ) → Result Shards Refusal
asked_span start end firsts ends =
    cond (eqb (after_asked start end firsts ends) 0) (shards 0 0) (shards (first_asked start end firsts ends) (after_asked start end firsts ends))

-- those of a query's range
abbrev pub asked_in : (firsts ends : List ℕ) → Result Frames Refusal → Result Shards Refusal
asked_in firsts ends (Ok frames) = asked_span frames.start frames.end firsts ends
asked_in firsts ends (Err e) = Err e

-- the directory's refusals come before the query's
unfoldable pub route_of : (rate : ℕ) (firsts ends : List ℕ) (length : ℤ) (text : List ℕ) → Result Shards Refusal
route_of rate firsts ends length text = unless Err (directory_when rate firsts ends) (asked_in firsts ends (range_of rate length text))

-- the number of an answer (0: not refused) and its place in the label, and its shards (a refusal's numbers are 0)
abbrev pub number_of : Result Shards Refusal → ℕ
number_of (Ok shards) = 0
number_of (Err e) = refusal_number e

abbrev pub place_of : Result Shards Refusal → ℕ
place_of (Ok shards) = 0
place_of (Err e) = e.place

abbrev pub first_of : Result Shards Refusal → ℕ
first_of (Ok shards) = shards.first
first_of (Err e) = 0

abbrev pub after_of : Result Shards Refusal → ℕ
after_of (Ok shards) = shards.after
after_of (Err e) = 0
