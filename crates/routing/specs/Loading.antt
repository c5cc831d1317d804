-- A directory as the lines of its file come (docs/ROUTING.md).
-- Assumes nothing.
use Rattle.std.specs.Prelude.{ℕ, ◌+◌, List, [], ◌∷◌, Bool, cond, not, leb, ltb, is_some, Option, Some, None, Result, Ok, Err}
use Rattle.rates.specs.Rates.{is_rate}
use Rattle.rates.specs.Day.{day_frames}
use Rattle.streams.specs.Gathering.{Kept}
use Rattle.routing.specs.declared.entries.Pair.{Pair}
use Rattle.routing.specs.declared.loading.Head.{Head}
use Rattle.routing.specs.declared.loading.Loading.{Loading}
use Rattle.routing.specs.declared.loading.Flaw.{Flaw}
use Rattle.routing.specs.declared.loading.Flaw.TheVariants.{TooLong, NoSuchRate, NoSuchReel, ManyShards, EmptyShard, EarlyShard, PastDay}
use Rattle.routing.specs.declared.loading.Loaded.{Loaded}
use Rattle.routing.specs.declared.loading.Loaded.TheVariants as loaded
use Rattle.routing.specs.Entries.{entry_of}

-- ---- what came of a line
-- nothing
pattern abbrev pub Skipped : Result Loaded Flaw
Skipped = Ok loaded.Skipped

-- the rate and the reel
pattern abbrev pub Headed : Loading → Result Loaded Flaw
Headed s = Ok (loaded.Head s)

-- a shard's first frame and end
pattern abbrev pub Shard : (first end : ℕ) → Loading → Result Loaded Flaw
Shard first end s = Ok (loaded.Shard first end s)

-- it is bad
pattern abbrev pub Bad : Flaw → Result Loaded Flaw
Bad flaw = Err flaw

-- ---- what has come
abbrev pub no_line : Loading
no_line = record { head = None; shards = 0; last = 0 }

-- have the rate and the reel?
abbrev pub is_headed : Loading → Bool
is_headed s = is_some s.head

-- which; 0 before they have
abbrev pub rate_by : Option Head → ℕ
rate_by (Some h) = h.rate
rate_by None = 0

abbrev pub rate_in : Loading → ℕ
rate_in s = rate_by s.head

abbrev pub reel_by : Option Head → ℕ
reel_by (Some h) = h.reel
reel_by None = 0

abbrev pub reel_in : Loading → ℕ
reel_in s = reel_by s.head

abbrev pub with_head : (rate reel : ℕ) → Loading
with_head rate reel = record { head = Some (record { rate = rate; reel = reel }); shards = 0; last = 0 }

abbrev pub with_shard : Loading → (end : ℕ) → Loading
with_shard s end = record { head = s.head; shards = s.shards + 1; last = end }

-- ---- a line
-- rate and reel: there is no such rate; a reel is 0 to 4294967295
unfoldable pub head_of : (rate reel : ℕ) → Result Loaded Flaw
head_of rate reel =
    cond (not (is_rate rate)) (Bad NoSuchRate)
    (cond (ltb 4294967295 reel) (Bad NoSuchReel) (Headed (with_head rate reel)))

-- a shard: 256 have come; it is empty; it begins before the one before it ends; it ends past the day
unfoldable pub shard_at : (rate : ℕ) → Loading → (first end : ℕ) → Result Loaded Flaw
shard_at rate s first end =
    cond (leb 256 s.shards) (Bad ManyShards)
    (cond (leb end first) (Bad EmptyShard)
    (cond (ltb first s.last) (Bad EarlyShard)
    (cond (ltb (day_frames rate) end) (Bad PastDay) (Shard first end (with_shard s end)))))

-- at the rate that has come
abbrev pub shard_of : Loading → (first end : ℕ) → Result Loaded Flaw
shard_of s = shard_at (rate_in s) s

-- the first two numbers are rate and reel, all others a shard
abbrev pub numbers_of : Loading → (first second : ℕ) → Result Loaded Flaw
numbers_of s first second = cond (is_headed s) (shard_of s first second) (head_of first second)

abbrev pub loaded_by : Loading → Result (Option Pair) Flaw → Result Loaded Flaw
loaded_by s (Ok None) = Skipped
loaded_by s (Ok (Some pair)) = numbers_of s pair.first pair.second
loaded_by s (Err flaw) = Bad flaw

-- a line; `over` where it has more bytes than are kept
unfoldable pub load_of : Loading → (line : List ℕ) (over : Bool) → Result Loaded Flaw
load_of s line over = cond over (Bad TooLong) (loaded_by s (entry_of line))

-- ---- a file
-- what its lines make: what has come, and the shards in order; or what is wrong with a line, and how many lines stand before it
pub data Directory : Type 0 where
  whole : Loading → (firsts ends : List ℕ) → Directory
  broken : (before : ℕ) → Flaw → Directory

abbrev pub with_one : (first end : ℕ) → Directory → Directory
with_one first end (whole s firsts ends) = whole s (first ∷ firsts) (end ∷ ends)
with_one first end (broken before flaw) = broken before flaw

-- behind a line, of which so many stand before it: what the others make of what has come
abbrev pub behind_one : (before : ℕ) → Loading → (others : Loading → Directory) → Result Loaded Flaw → Directory
behind_one before s others Skipped = others s
behind_one before s others (Headed t) = others t
behind_one before s others (Shard first end t) = with_one first end (others t)
behind_one before s others (Bad flaw) = broken before flaw

unfoldable pub loaded_from : (before : ℕ) → Loading → (lines : List Kept) → Directory
loaded_from before s [] = whole s [] []
loaded_from before s (k ∷ lines) = behind_one before s (λ t. loaded_from (before + 1) t lines) (load_of s k.bytes k.over)

abbrev pub loaded_of : (lines : List Kept) → Directory
loaded_of lines = loaded_from 0 no_line lines
