-- A directory of shards (BEHAVIOUR: Router): its rules, a line for each, and the test of them.
-- Assumes nothing.
use Rattle.std.specs.Prelude.{ℕ, ◌≤◌, ◌<◌, ◌≡◌, List, [], ◌∷◌, Bool, true, false, not, ◌&&◌, cond, leb, ltb, length, get_or}
use Rattle.answers.specs.Order.{Condition, when}
use Rattle.answers.specs.Refusals.{broken_directory}
use Rattle.rates.specs.Rates.{bad_rate}
use Rattle.rates.specs.Day.{day_frames}

-- a frame lies in shard i: from its first frame up to its end, which is not in it
pub record InShard (firsts ends : List ℕ) (i frame : ℕ) : Type 0 where
  pub from : get_or firsts i 0 ≤ frame
  pub before : frame < get_or ends i 0

-- the rules: each shard has a first frame and an end; there are up to 256; none is empty; they are in rising order without overlap; none
-- ends past the day
pub record Rules (day : ℕ) (firsts ends : List ℕ) : Type 0 where
  pub paired : length firsts ≡ length ends
  pub few : length firsts ≤ 256
  pub some : (i : ℕ) → i < length firsts → get_or firsts i 0 < get_or ends i 0
  pub apart : (i j : ℕ) → i < j → j < length firsts → get_or ends i 0 ≤ get_or firsts j 0
  pub within : (i : ℕ) → i < length firsts → get_or ends i 0 ≤ day

-- the test, from the front on: none begins before `low`, the end of the one before it
unfoldable pub in_order : (day low : ℕ) (firsts ends : List ℕ) → Bool
in_order day low [] [] = true
in_order day low [] (e ∷ ends) = false
in_order day low (f ∷ firsts) [] = false
in_order day low (f ∷ firsts) (e ∷ ends) = cond (ltb f low) false (cond (leb e f) false (cond (ltb day e) false (in_order day e firsts ends)))

unfoldable pub is_directory : (day : ℕ) (firsts ends : List ℕ) → Bool
is_directory day firsts ends = leb (length firsts) 256 && in_order day 0 firsts ends

-- 6: no such rate; 16: the directory breaks a rule
abbrev pub directory_when : (rate : ℕ) (firsts ends : List ℕ) → List Condition
directory_when rate firsts ends = bad_rate rate ∷ when broken_directory (not (is_directory (day_frames rate) firsts ends)) ∷ []
