-- What is wrong with a line of a directory file, in words (docs/ROUTING.md).
-- Assumes nothing.
use Rattle.std.specs.Prelude.{ℕ, List, [], ◌∷◌, false}
use Rattle.laws.specs.Spelt.{spelt}
use Rattle.written.specs.Parts.{signed_text}
use Rattle.streams.specs.Pieces.{line_end}
use Rattle.routing.specs.declared.loading.Flaw.{Flaw}
use Rattle.routing.specs.declared.loading.Flaw.TheVariants.{TooLong, NotTwoNumbers, NoSuchRate, NoSuchReel, ManyShards, EmptyShard, EarlyShard, PastDay}

-- the words; behind them the number that the router refuses such a directory
abbrev pub flaw_text : Flaw → List ℕ
flaw_text TooLong = spelt "too long"
flaw_text NotTwoNumbers = spelt "not two numbers"
flaw_text NoSuchRate = spelt "no such rate (refused 6)"
flaw_text NoSuchReel = spelt "no such reel"
flaw_text ManyShards = spelt "more than 256 shards (refused 16)"
flaw_text EmptyShard = spelt "the shard's end is not after its first frame (refused 16)"
flaw_text EarlyShard = spelt "the shard begins before the one before it ends (refused 16)"
flaw_text PastDay = spelt "the shard ends past the day (refused 16)"

-- the line's number, and the words
unfoldable pub flaw_pieces : (line : ℕ) → Flaw → List (List ℕ)
flaw_pieces line flaw = spelt "line " ∷ signed_text false line ∷ spelt ": " ∷ flaw_text flaw ∷ line_end ∷ []
