-- A shard with a frame in common with the range is asked (BEHAVIOUR: Router). The first that is asked, and the last: proofs/AskedSpan.antt.
-- Assumes nothing.
use Rattle.std.specs.Prelude.{ℕ, suc, ◌<◌, max, ◌≡◌, List, true, length, get_or}
use Rattle.std.proofs.Common.{arith, lt-ltb}
use Rattle.router.specs.Route.{Common, is_asked}

-- shard i is asked
abbrev pub Asked : (start end : ℕ) (firsts ends : List ℕ) (i : ℕ) → Type 0
Asked start end firsts ends i = is_asked start end (get_or firsts i 0) (get_or ends i 0) ≡ true

pub common-asked : (start end : ℕ) (firsts ends : List ℕ) (i frame : ℕ) → Common firsts ends start end i frame → Asked start end firsts ends i
common-asked start end firsts ends i frame c =
    lt-ltb (max (get_or firsts i 0) start) _
    (omega (arith, c.shard.from, c.shard.before, c.range.from, c.range.before))

-- n comes right behind a shard that is asked
pub record Last (start end : ℕ) (firsts ends : List ℕ) (n : ℕ) : Type 0 where
  pub last : ℕ
  pub is : n ≡ suc last
  pub inside : last < length firsts
  pub asked : Asked start end firsts ends last
