-- The search by halving (BEHAVIOUR: Router), in any list; that it gives what walking gives is said in Statements.antt.
-- Assumes nothing.
use Rattle.router.specs.declared.query.Frames.{Frames}
use Rattle.router.specs.Found.{shards}
use Rattle.answers.specs.declared.Refusal.{Refusal}
use Rattle.router.specs.declared.Shards.{Shards}
use Rattle.std.specs.Prelude.{ℕ, zero, suc, ◌+◌, ◌-◌, ◌/◌, List, cond, leb, ltb, length, get_or, Err, Result, Ok}

-- the middle of a part
abbrev pub middle : (lo hi : ℕ) → ℕ
middle lo hi = lo + (hi - lo) / 2

-- the part from lo up to hi, halved until nothing is left, in so many turns at most
unfoldable pub halved_from : (turns : ℕ) (v : ℕ) (l : List ℕ) (lo hi : ℕ) → ℕ
halved_from zero v l lo hi = lo
halved_from (suc turns) v l lo hi =
    cond (ltb lo hi) (cond (ltb (get_or l (middle lo hi) 0) v) (halved_from turns v l (middle lo hi + 1) hi) (halved_from turns v l lo (middle lo hi))) lo

unfoldable pub halved : (v : ℕ) → List ℕ → ℕ
halved v l = halved_from (length l) v l 0 (length l)

-- the shards behind those that end by the start, and before those that begin at the end or later
unfoldable pub halved_span : (start end : ℕ) (firsts ends : List ℕ) → Result Shards Refusal
halved_span start end firsts ends =
    cond (leb end start) (shards 0 0)
    (cond (ltb (halved (start + 1) ends) (halved end firsts)) (shards (halved (start + 1) ends) (halved end firsts)) (shards 0 0))

abbrev pub found_in : (firsts ends : List ℕ) → Result Frames Refusal → Result Shards Refusal
found_in firsts ends (Ok frames) = halved_span frames.start frames.end firsts ends
found_in firsts ends (Err e) = Err e
