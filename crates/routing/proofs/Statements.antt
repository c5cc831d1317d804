-- What is read and told, as the statements say it.
-- Assumes nothing.
use Rattle.router.specs.Found.{shards}
use Rattle.std.specs.Prelude.{Some, None, Err, Ok, Option, Result}
use Rattle.router.specs.declared.Shards.{Shards}
use Rattle.answers.specs.Causes.{refusal_number}
use Prim.Native.Nat.{ℕ, ◌+◌, ◌-◌, ◌^◌, ◌≤◌, ◌<◌}
use mathlib.Core.Path.{◌≡◌, refl, ap, ◌∙◌}
use mathlib.Core.List.{List, [], ◌∷◌, ◌++◌}
use mathlib.Core.Bool.{Bool, true, false, cond}
use native.Mathlib.Omega.{arith}
use lib.Dec.{leb, eqb}
use lib.IntN.{ℤ}
use lib.ListN.{length, drop, length-append}
use Rattle.laws.specs.Spelt.{spelt}
use Rattle.asking.specs.Numbers.{signed_at, digits_at, signed_word}
use Rattle.digits.specs.Digits.{span, value_from, decimal, digits_of, width, width_by}
use Rattle.digits.proofs.Width.{decimal_length, width-at-most}
use Rattle.answers.specs.declared.Refusal.{Refusal}
use Rattle.written.specs.Parts.{signed_text}
use Rattle.phrases.specs.Phrases.{phrases, phrase_of}
use Rattle.phrases.proofs.Room.{phrase-most}
use Rattle.streams.specs.Parting.{together}
use Rattle.streams.proofs.Pieces.{pieces-stand}
use Rattle.router.specs.Route.{route_of}
use Rattle.router.specs.Tested.{directory_of, routed_in}
use Rattle.router.proofs.Statements.{tested_once}
use Rattle.routing.specs.declared.queries.Query.{Query}
use Rattle.routing.specs.Grammar.{Asks}
use Rattle.routing.specs.Entries.{past_blanks, found_at, ended_by, second_in, entry_in, entry_of}
use Rattle.routing.specs.Loading.{with_one, behind_one, loaded_from}
use Rattle.routing.specs.Queries.{asked_at, query_of}
use Rattle.routing.specs.Flaws.{flaw_pieces}
use Rattle.routing.specs.Told.{one_pieces, some_pieces, which_pieces, found_pieces, reason_pieces, routed_pieces, asked_pieces, answer_pieces}
use Rattle.routing.specs.Statements.{LineSkipped, LineTaken, HeadLoaded, ShardLoaded, NothingLoaded, StatesAre, LineBad, LinesInTurn, FileLoaded, LoadedPasses, QueryUnderstood, AnswerStands, FlawStands, answer_text, SomeTold, OneTold, NoneTold, RefusedTold, OtherTold, LongTold, AnswerShort, AnswersRead, FlawsRead, EntriesRead, QueriesRead}
use Rattle.routing.proofs.Spelt as lines
use Rattle.routing.proofs.Taking as taking
use Rattle.routing.proofs.Flawed as flawed
use Rattle.routing.proofs.Files as files
use Rattle.routing.proofs.Asking as asking
use Rattle.routing.proofs.Putting.{which-none, which-one, which-some}

-- ---- what is read
pub line_skipped : LineSkipped
line_skipped = lines.line_skipped

pub line_taken : LineTaken
line_taken = lines.line_taken

pub head_loaded : HeadLoaded
head_loaded = taking.head_loaded

pub shard_loaded : ShardLoaded
shard_loaded = taking.shard_loaded

pub nothing_loaded : NothingLoaded
nothing_loaded = flawed.nothing_loaded

pub states_are : StatesAre
states_are = record { none = refl; head = λ rate reel. refl; shard = λ s end. refl }

pub line_bad : LineBad
line_bad = flawed.line_bad

pub lines_in_turn : LinesInTurn
unfolding loaded_from
lines_in_turn = record {
  start = λ lines. refl;
  over = λ n s. refl;
  skipped = λ n s k lines e. ap (behind_one n s (λ t. loaded_from (n + 1) t lines)) e;
  head = λ n s t k lines e. ap (behind_one n s (λ t. loaded_from (n + 1) t lines)) e;
  shard = λ n s t u k lines first end firsts ends e f. ap (behind_one n s (λ t. loaded_from (n + 1) t lines)) e ∙ ap (with_one first end) f;
  bad = λ n s k lines flaw e. ap (behind_one n s (λ t. loaded_from (n + 1) t lines)) e;
  bad_later = λ n m s t k lines first end flaw e f. ap (behind_one n s (λ t. loaded_from (n + 1) t lines)) e ∙ ap (with_one first end) f;
}

pub file_loaded : FileLoaded
file_loaded = files.file_loaded

pub loaded_passes : LoadedPasses
loaded_passes = files.loaded_passes

pub query_understood : QueryUnderstood
query_understood = asking.query_understood

-- ---- what is put
pub answer_stands : AnswerStands
answer_stands s d reel line over = pieces-stand s (answer_pieces d reel line over)

pub flaw_stands : FlawStands
flaw_stands s line flaw = pieces-stand s (flaw_pieces line flaw)

-- ---- what is told of a query
told : (rate : ℕ) (firsts ends : List ℕ) (reel : ℕ) (line : List ℕ) (z : ℤ) (label : List ℕ) (r : Result Shards Refusal) → Asks line z label
    → route_of rate firsts ends z label ≡ r → answer_text rate firsts ends reel line ≡ together (routed_pieces reel r)
unfolding answer_pieces
told rate firsts ends reel line z label r a e =
    let u = (asking.query_understood line z label).0 a in
    let d = directory_of rate firsts ends in
    ap (λ q. together (asked_pieces d reel line q)) u.asked
    ∙ ap (λ t. together (routed_pieces reel (routed_in d z t))) u.rest
    ∙ ap (λ x. together (routed_pieces reel x)) (tested_once rate firsts ends z label ∙ e)

-- which of them, and the reel behind it
found-text : (reel first after : ℕ) (which : List (List ℕ)) → which ≡ which_pieces first after
    → together (found_pieces reel first after) ≡ together (which ++ (spelt " of reel " ∷ signed_text false reel ∷ (10 ∷ []) ∷ []))
unfolding found_pieces
found-text reel first after which e = rw e

pub some_told : SomeTold
unfolding together
some_told rate firsts ends reel line z label first after a e h =
    told rate firsts ends reel line z label (shards first after) a e
    ∙ found-text reel first after (some_pieces first (after - 1)) (which-some first after (omega arith) (after - 1) (λ y. omega (arith, y)) refl)

pub one_told : OneTold
unfolding together
one_told rate firsts ends reel line z label first a e =
    told rate firsts ends reel line z label (shards first (first + 1)) a e
    ∙ found-text reel first (first + 1) (one_pieces first) (which-one first (first + 1) (omega arith) (omega arith))

pub none_told : NoneTold
unfolding together
none_told rate firsts ends reel line z label first after a e h =
    told rate firsts ends reel line z label (shards first after) a e ∙ found-text reel first after (spelt "no shard" ∷ []) (which-none first after h)

pub refused_told : RefusedTold
unfolding together reason_pieces
refused_told rate firsts ends reel line z label x a e = told rate firsts ends reel line z label (Err x) a e

pub other_told : OtherTold
unfolding together answer_pieces
other_told rate firsts ends reel line n = by (query_of line) refl
  where
    by : (q : Option Query) → query_of line ≡ q
        → together (asked_pieces (directory_of rate firsts ends) reel line q) ≡ spelt "not understood: a query is LENGTH LABEL" ++ (10 ∷ [])
    by (Some q) e =
        absurd (n q.length (drop q.label line) ((asking.query_understood line q.length (drop q.label line)).1 (record { at = q.label; asked = e; rest = refl })))
    by None e = refl

pub long_told : LongTold
unfolding together answer_pieces
long_told d reel line = refl

-- ---- how long it is
number-most : (n : ℕ) → n < 2 ^ 64 → length (signed_text false n) ≤ 20
number-most n h = omega (arith, decimal_length 1 n, width-at-most n 20 (omega arith) (omega arith))

module _ (reel : ℕ) (h : reel < 2 ^ 64) where
  reel-most : length (together (spelt " of reel " ∷ signed_text false reel ∷ (10 ∷ []) ∷ [])) ≤ 30
  unfolding together
  reel-most = simp length-append (omega (arith, number-most reel h))

  found-most : (first after : ℕ) → first < 2 ^ 64 → after < 2 ^ 64 → length (together (found_pieces reel first after)) ≤ 256
  unfolding found_pieces which_pieces together
  found-most first after p q = by (leb after first) (eqb (after - first) 1)
    where
      by : (x y : Bool)
          → length (together (cond x (spelt "no shard" ∷ []) (cond y (one_pieces first) (some_pieces first (after - 1)))
          ++ (spelt " of reel " ∷ signed_text false reel ∷ (10 ∷ []) ∷ []))) ≤ 256
      by true y = omega (arith, reel-most)
      by false true = simp length-append (omega (arith, reel-most, number-most first p, number-most reel h))
      by false false =
          simp length-append (omega (arith, reel-most, number-most first p, number-most (after - 1) (omega arith), number-most reel h))

pub answer_short : AnswerShort
unfolding together reason_pieces
answer_short reel (Ok shards) h w = found-most reel h shards.first shards.after w.0 w.1
answer_short reel (Err e) h w =
    simp length-append (omega (arith, number-most (refusal_number e) w.0, number-most e.place w.1, phrase-most (refusal_number e)))

-- ---- by computation
pub answers_read : AnswersRead
unfolding together found_pieces which_pieces reason_pieces phrase_of phrases decimal digits_of width width_by
answers_read = record { some = refl; two = refl; one = refl; none = refl; refused = refl; past = refl }

pub flaws_read : FlawsRead
unfolding together flaw_pieces decimal digits_of width width_by
flaws_read = record { long = refl; numbers = refl; rate = refl; reel = refl; many = refl; empty = refl; early = refl; past = refl }

pub entries_read : EntriesRead
unfolding past_blanks found_at ended_by second_in entry_in entry_of signed_at digits_at signed_word span value_from
entries_read = record {
  head = refl;
  blanks = refl;
  glued = refl;
  comment = refl;
  empty = refl;
  return = refl;
  one = refl;
  three = refl;
  sign = refl;
  comma = refl;
  wide = refl;
}

pub queries_read : QueriesRead
unfolding asked_at query_of signed_at digits_at signed_word span value_from
queries_read = record {
  query = refl;
  below = refl;
  no_label = refl;
  no_space = refl;
  no_length = refl;
  blank = refl;
  wide = refl;
}
