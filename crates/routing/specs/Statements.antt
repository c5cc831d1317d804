-- What holds of what the program `route` reads and tells (docs/ROUTING.md). Proofs: proofs/Statements.antt.
-- Assumes nothing.
use Rattle.router.specs.Found.{shards}
use Rattle.router.specs.declared.Shards.{Shards}
use Rattle.answers.specs.Causes.{refusal}
use Rattle.answers.specs.Refusals.{at_place}
use Rattle.answers.specs.Causes.{refusal_number}
use Rattle.std.specs.Prelude.{ℕ, ◌+◌, ◌-◌, ◌^◌, ◌≤◌, ◌<◌, ◌≡◌, ◌↔◌, Bool, true, false, List, [], ◌∷◌, ◌++◌, ℤ, pos, negsuc, length, drop, Some, None, Ok, Err, Result}
use Rattle.laws.specs.Spelt.{spelt}
use Rattle.rates.specs.Rates.{is_rate}
use Rattle.rates.specs.Day.{day_frames}
use Rattle.written.specs.Parts.{signed_text}
use Rattle.phrases.specs.Phrases.{phrase_of}
use Rattle.streams.specs.Gathering.{Kept}
use Rattle.streams.specs.Parting.{together}
use Rattle.streams.specs.Sheet.{Sheet, text_on}
use Rattle.streams.specs.Pieces.{all_on}
use Rattle.answers.specs.declared.Refusal.{Refusal}
use Rattle.router.specs.declared.many.Directory.{Directory}
use Rattle.router.specs.Route.{route_of}
use Rattle.router.specs.Directory.{Rules}
use Rattle.router.specs.Tested.{directory_of}
use Rattle.routing.specs.declared.loading.Loading.{Loading}
use Rattle.routing.specs.declared.loading.Flaw.{Flaw}
use Rattle.routing.specs.declared.loading.Flaw.TheVariants.{TooLong, NotTwoNumbers, NoSuchRate, NoSuchReel, ManyShards, EmptyShard, EarlyShard, PastDay}
use Rattle.routing.specs.Entries as entry
use Rattle.routing.specs.Entries.{entry_of}
use Rattle.routing.specs.Grammar.{SaysNothing, SaysTwo, Spells, Asks}
use Rattle.routing.specs.Loading as loaded
use Rattle.routing.specs.Loading.{is_headed, rate_in, reel_in, no_line, with_head, with_shard, load_of, whole, broken, loaded_from, loaded_of}
use Rattle.routing.specs.Queries.{Asked, NotUnderstood, query_of}
use Rattle.routing.specs.Flaws.{flaw_pieces}
use Rattle.routing.specs.Told.{routed_pieces, answer_pieces}

-- ---- a line of a directory file
-- a line is skipped exactly when the grammar has nothing in it
abbrev pub LineSkipped : Type 0
LineSkipped = (line : List ℕ) → SaysNothing line ↔ (entry_of line ≡ entry.Skipped)

-- and is two numbers exactly when the grammar has it so
abbrev pub LineTaken : Type 0
LineTaken = (line : List ℕ) (first second : ℕ) → SaysTwo line first second ↔ (entry_of line ≡ entry.Numbers first second)

-- ---- the directory that the lines make
-- what is right of a line of rate and reel, where none has come
pub record IsHead (s : Loading) (line : List ℕ) (t : Loading) : Type 0 where
  pub rate : ℕ
  pub reel : ℕ
  pub says : SaysTwo line rate reel
  pub none : is_headed s ≡ false
  pub rated : is_rate rate ≡ true
  pub most : reel ≤ 4294967295
  pub is : t ≡ with_head rate reel

-- what is right of a shard's line: rate and reel have come, and fewer than 256 shards; it is not empty, begins where the one before it ends or
-- later, and does not end past the day
pub record IsShard (s : Loading) (line : List ℕ) (first end : ℕ) (t : Loading) : Type 0 where
  pub says : SaysTwo line first end
  pub headed : is_headed s ≡ true
  pub few : s.shards < 256
  pub some : first < end
  pub after : s.last ≤ first
  pub within : end ≤ day_frames (rate_in s)
  pub is : t ≡ with_shard s end

-- a line is taken as rate and reel exactly when all that is right of it
abbrev pub HeadLoaded : Type 0
HeadLoaded = (s : Loading) (line : List ℕ) (t : Loading) → IsHead s line t ↔ (load_of s line false ≡ loaded.Headed t)

-- and as a shard exactly when all that is right of it
abbrev pub ShardLoaded : Type 0
ShardLoaded =
    (s : Loading) (line : List ℕ) (first end : ℕ) (t : Loading)
    → IsShard s line first end t ↔ (load_of s line false ≡ loaded.Shard first end t)

-- and is passed over exactly when the grammar has nothing in it
abbrev pub NothingLoaded : Type 0
NothingLoaded = (s : Loading) (line : List ℕ) (over : Bool) → ((over ≡ false) × SaysNothing line) ↔ (load_of s line over ≡ loaded.Skipped)

-- what has come, in plain fields: before any line, behind rate and reel, and behind a shard
pub record StatesAre : Type 0 where
  pub none : no_line ≡ record { head = None; shards = 0; last = 0 }
  pub head : (rate reel : ℕ) → with_head rate reel ≡ record { head = Some (record { rate = rate; reel = reel }); shards = 0; last = 0 }
  pub shard : (s : Loading) (end : ℕ)
      → with_shard s end ≡ record { head = s.head; shards = s.shards + 1; last = end }

-- what is wrong with a line, in the order in which it is looked for: it is too long; it is neither nothing nor two numbers; of rate and reel
-- there is no such rate, or no such reel; of a shard 256 have come, it is empty, it begins before the one before it ends, it ends past the day
pub data Wrong (s : Loading) (line : List ℕ) : (over : Bool) → Flaw → Type 0 where
  too_long : Wrong s line true TooLong
  not_two : (SaysNothing line → ⊥) → ((m n : ℕ) → SaysTwo line m n → ⊥) → Wrong s line false NotTwoNumbers
  no_rate : (rate reel : ℕ) → SaysTwo line rate reel → is_headed s ≡ false → is_rate rate ≡ false → Wrong s line false NoSuchRate
  no_reel : (rate reel : ℕ) → SaysTwo line rate reel → is_headed s ≡ false → is_rate rate ≡ true → 4294967295 < reel → Wrong s line false NoSuchReel
  many : (first end : ℕ) → SaysTwo line first end → is_headed s ≡ true → 256 ≤ s.shards → Wrong s line false ManyShards
  empty : (first end : ℕ) → SaysTwo line first end → is_headed s ≡ true → s.shards < 256 → end ≤ first → Wrong s line false EmptyShard
  early : (first end : ℕ) → SaysTwo line first end → is_headed s ≡ true → s.shards < 256 → first < end → first < s.last
      → Wrong s line false EarlyShard
  past : (first end : ℕ) → SaysTwo line first end → is_headed s ≡ true → s.shards < 256 → first < end → s.last ≤ first
      → day_frames (rate_in s) < end → Wrong s line false PastDay

-- a line is bad exactly when that is wrong with it
abbrev pub LineBad : Type 0
LineBad = (s : Loading) (line : List ℕ) (over : Bool) (flaw : Flaw) → Wrong s line over flaw ↔ (load_of s line over ≡ loaded.Bad flaw)

-- a file is its lines in turn, each loaded behind those before it: the shards in order, up to the first bad line, before which so many stand
pub record LinesInTurn : Type 0 where
  pub start : (lines : List Kept) → loaded_of lines ≡ loaded_from 0 no_line lines
  pub over : (n : ℕ) (s : Loading) → loaded_from n s [] ≡ whole s [] []
  pub skipped : (n : ℕ) (s : Loading) (k : Kept) (lines : List Kept) → load_of s k.bytes k.over ≡ loaded.Skipped
      → loaded_from n s (k ∷ lines) ≡ loaded_from (n + 1) s lines
  pub head : (n : ℕ) (s t : Loading) (k : Kept) (lines : List Kept) → load_of s k.bytes k.over ≡ loaded.Headed t
      → loaded_from n s (k ∷ lines) ≡ loaded_from (n + 1) t lines
  pub shard : (n : ℕ) (s t u : Loading) (k : Kept) (lines : List Kept) (first end : ℕ) (firsts ends : List ℕ)
      → load_of s k.bytes k.over ≡ loaded.Shard first end t → loaded_from (n + 1) t lines ≡ whole u firsts ends
      → loaded_from n s (k ∷ lines) ≡ whole u (first ∷ firsts) (end ∷ ends)
  pub bad : (n : ℕ) (s : Loading) (k : Kept) (lines : List Kept) (flaw : Flaw) → load_of s k.bytes k.over ≡ loaded.Bad flaw
      → loaded_from n s (k ∷ lines) ≡ broken n flaw
  pub bad_later : (n m : ℕ) (s t : Loading) (k : Kept) (lines : List Kept) (first end : ℕ) (flaw : Flaw)
      → load_of s k.bytes k.over ≡ loaded.Shard first end t → loaded_from (n + 1) t lines ≡ broken m flaw
      → loaded_from n s (k ∷ lines) ≡ broken m flaw

-- what the lines of a file made: its rate, its reel and its shards, in order
pub record Loads (lines : List Kept) (rate reel : ℕ) (firsts ends : List ℕ) : Type 0 where
  pub state : Loading
  pub is : loaded_of lines ≡ whole state firsts ends
  pub headed : is_headed state ≡ true
  pub rate_is : rate_in state ≡ rate
  pub reel_is : reel_in state ≡ reel
  pub count : state.shards ≡ length firsts

-- what is right of a file: its lines spell a directory, there is such a rate and such a reel, and the router's rules are kept
pub record Right (lines : List Kept) (rate reel : ℕ) (firsts ends : List ℕ) : Type 0 where
  pub spells : Spells lines rate reel firsts ends
  pub rated : is_rate rate ≡ true
  pub most : reel ≤ 4294967295
  pub rules : Rules (day_frames rate) firsts ends

-- a file is loaded exactly when all that is right of it: no line of it is bad, and the shards are those that it spells
abbrev pub FileLoaded : Type 0
FileLoaded =
    (lines : List Kept) (rate reel : ℕ) (firsts ends : List ℕ) → Loads lines rate reel firsts ends ↔ Right lines rate reel firsts ends

-- so the router's test of what was loaded passes
abbrev pub LoadedPasses : Type 0
LoadedPasses =
    (lines : List Kept) (rate reel : ℕ) (firsts ends : List ℕ) → Loads lines rate reel firsts ends
    → (directory_of rate firsts ends).verdict ≡ (Ok tt)

-- ---- a query
-- it is understood, and the label is what stands from its place on
pub record Understood (line : List ℕ) (length : ℤ) (label : List ℕ) : Type 0 where
  pub at : ℕ
  pub asked : query_of line ≡ Asked length at
  pub rest : drop at line ≡ label

-- a line is understood as a query exactly when the grammar has it so
abbrev pub QueryUnderstood : Type 0
QueryUnderstood = (line : List ℕ) (length : ℤ) (label : List ℕ) → Asks line length label ↔ Understood line length label

-- ---- what is told
-- behind the text that the sheet has stands the answer, where it has room, and nothing else
abbrev pub AnswerStands : Type 0
AnswerStands =
    (s : Sheet) (d : Directory) (reel : ℕ) (line : List ℕ) (over : Bool)
    → s.used + length (together (answer_pieces d reel line over)) ≤ length s.bytes
    → text_on (all_on s (answer_pieces d reel line over)) ≡ text_on s ++ together (answer_pieces d reel line over)

-- so it is with what is told of a bad line
abbrev pub FlawStands : Type 0
FlawStands =
    (s : Sheet) (line : ℕ) (flaw : Flaw) → s.used + length (together (flaw_pieces line flaw)) ≤ length s.bytes
    → text_on (all_on s (flaw_pieces line flaw)) ≡ text_on s ++ together (flaw_pieces line flaw)

-- the answer to a line, asked of the directory of a file
abbrev pub answer_text : (rate : ℕ) (firsts ends : List ℕ) (reel : ℕ) (line : List ℕ) → List ℕ
answer_text rate firsts ends reel line = together (answer_pieces (directory_of rate firsts ends) reel line false)

-- of several shards the first and the last that the router gives are told, both of them asked, and the reel
abbrev pub SomeTold : Type 0
SomeTold =
    (rate : ℕ) (firsts ends : List ℕ) (reel : ℕ) (line : List ℕ) (z : ℤ) (label : List ℕ) (first after : ℕ) → Asks line z label
    → route_of rate firsts ends z label ≡ shards first after → first + 1 < after
    → answer_text rate firsts ends reel line
    ≡ spelt "shards "
    ++ (signed_text false first
    ++ (spelt " to " ++ (signed_text false (after - 1) ++ (spelt " of reel " ++ (signed_text false reel ++ (10 ∷ []))))))

-- of one alone it is told
abbrev pub OneTold : Type 0
OneTold =
    (rate : ℕ) (firsts ends : List ℕ) (reel : ℕ) (line : List ℕ) (z : ℤ) (label : List ℕ) (first : ℕ) → Asks line z label
    → route_of rate firsts ends z label ≡ shards first (first + 1)
    → answer_text rate firsts ends reel line
    ≡ spelt "shard " ++ (signed_text false first ++ (spelt " of reel " ++ (signed_text false reel ++ (10 ∷ []))))

-- and where the router gives none, that there is none
abbrev pub NoneTold : Type 0
NoneTold =
    (rate : ℕ) (firsts ends : List ℕ) (reel : ℕ) (line : List ℕ) (z : ℤ) (label : List ℕ) (first after : ℕ) → Asks line z label
    → route_of rate firsts ends z label ≡ shards first after → after ≤ first
    → answer_text rate firsts ends reel line ≡ spelt "no shard of reel " ++ (signed_text false reel ++ (10 ∷ []))

-- of a refusal the router's number, its place, and the phrase of the number
abbrev pub RefusedTold : Type 0
RefusedTold =
    (rate : ℕ) (firsts ends : List ℕ) (reel : ℕ) (line : List ℕ) (z : ℤ) (label : List ℕ) (e : Refusal) → Asks line z label
    → route_of rate firsts ends z label ≡ Err e
    → answer_text rate firsts ends reel line
    ≡ spelt "refused "
    ++ (signed_text false (refusal_number e) ++ (32 ∷ signed_text false e.place ++ (spelt ": " ++ (phrase_of (refusal_number e) ++ (10 ∷ [])))))

-- a line that the grammar does not have is not understood
abbrev pub OtherTold : Type 0
OtherTold =
    (rate : ℕ) (firsts ends : List ℕ) (reel : ℕ) (line : List ℕ) → ((z : ℤ) (label : List ℕ) → Asks line z label → ⊥)
    → answer_text rate firsts ends reel line ≡ spelt "not understood: a query is LENGTH LABEL" ++ (10 ∷ [])

-- nor is one that has more bytes than are kept
abbrev pub LongTold : Type 0
LongTold =
    (d : Directory) (reel : ℕ) (line : List ℕ)
    → together (answer_pieces d reel line true) ≡ spelt "not understood: a query is LENGTH LABEL" ++ (10 ∷ [])

-- numbers of an answer that have room in 64 bits, as all that are computed have
abbrev pub Wide : Result Shards Refusal → Type 0
Wide (Ok shards) = (shards.first < 2 ^ 64) × (shards.after < 2 ^ 64)
Wide (Err e) = ((refusal_number e) < 2 ^ 64) × (e.place < 2 ^ 64)

-- so no answer of the router's has over 256 bytes
abbrev pub AnswerShort : Type 0
AnswerShort = (reel : ℕ) (r : Result Shards Refusal) → reel < 2 ^ 64 → Wide r → length (together (routed_pieces reel r)) ≤ 256

-- the answers read so in plain words, one case of each
pub record AnswersRead : Type 0 where
  pub some : together (routed_pieces 12 (shards 3 8)) ≡ spelt "shards 3 to 7 of reel 12" ++ (10 ∷ [])
  pub two : together (routed_pieces 0 (shards 0 2)) ≡ spelt "shards 0 to 1 of reel 0" ++ (10 ∷ [])
  pub one : together (routed_pieces 12 (shards 3 4)) ≡ spelt "shard 3 of reel 12" ++ (10 ∷ [])
  pub none : together (routed_pieces 4294967295 (shards 0 0)) ≡ spelt "no shard of reel 4294967295" ++ (10 ∷ [])
  pub refused : together (routed_pieces 12 (Err (at_place (refusal 1) 10))) ≡ spelt "refused 1 10: not in a form that can be read" ++ (10 ∷ [])
  pub past : together (routed_pieces 12 (Err (refusal 17))) ≡ spelt "refused 17 0: a query that ends past the day" ++ (10 ∷ [])

-- and what is told of a bad line
pub record FlawsRead : Type 0 where
  pub long : together (flaw_pieces 1 TooLong) ≡ spelt "line 1: too long" ++ (10 ∷ [])
  pub numbers : together (flaw_pieces 2 NotTwoNumbers) ≡ spelt "line 2: not two numbers" ++ (10 ∷ [])
  pub rate : together (flaw_pieces 3 NoSuchRate) ≡ spelt "line 3: no such rate (refused 6)" ++ (10 ∷ [])
  pub reel : together (flaw_pieces 3 NoSuchReel) ≡ spelt "line 3: no such reel" ++ (10 ∷ [])
  pub many : together (flaw_pieces 259 ManyShards) ≡ spelt "line 259: more than 256 shards (refused 16)" ++ (10 ∷ [])
  pub empty : together (flaw_pieces 4 EmptyShard) ≡ spelt "line 4: the shard's end is not after its first frame (refused 16)" ++ (10 ∷ [])
  pub early : together (flaw_pieces 4 EarlyShard) ≡ spelt "line 4: the shard begins before the one before it ends (refused 16)" ++ (10 ∷ [])
  pub past : together (flaw_pieces 10 PastDay) ≡ spelt "line 10: the shard ends past the day (refused 16)" ++ (10 ∷ [])

-- and what is read, in plain bytes: lines of a directory file
pub record EntriesRead : Type 0 where
  pub head : entry_of (spelt "3 12 # rate, reel") ≡ entry.Numbers 3 12
  pub blanks : entry_of (9 ∷ spelt " 90000" ++ (9 ∷ spelt "180000 " ++ (13 ∷ []))) ≡ entry.Numbers 90000 180000
  pub glued : entry_of (spelt "0 100#x") ≡ entry.Numbers 0 100
  pub comment : entry_of (spelt " # 1 2") ≡ entry.Skipped
  pub empty : entry_of [] ≡ entry.Skipped
  pub return : entry_of (13 ∷ []) ≡ entry.Skipped
  pub one : entry_of (spelt "5") ≡ entry.Bad
  pub three : entry_of (spelt "1 2 3") ≡ entry.Bad
  pub sign : entry_of (spelt "-5 10") ≡ entry.Bad
  pub comma : entry_of (spelt "1,2") ≡ entry.Bad
  pub wide : entry_of (spelt "0 9223372036854775808") ≡ entry.Bad

-- and queries
pub record QueriesRead : Type 0 where
  pub query : query_of (spelt "25 01:00") ≡ Asked (pos 25) 3
  pub below : query_of (spelt "-9 01:00") ≡ Asked (negsuc 8) 3
  pub no_label : query_of (spelt "10 ") ≡ Asked (pos 10) 3
  pub no_space : query_of (spelt "10") ≡ NotUnderstood
  pub no_length : query_of (spelt "01:00 25") ≡ NotUnderstood
  pub blank : query_of (spelt " 25 01:00") ≡ NotUnderstood
  pub wide : query_of (spelt "9223372036854775808 1") ≡ NotUnderstood
