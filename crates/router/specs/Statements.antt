-- What holds of the router (BEHAVIOUR: Router): each refusal exactly, and which shards are asked, frame by frame. Proofs: proofs/Statements.antt.
-- Assumes nothing.
use Rattle.router.specs.Found.{shards, frames}
use Rattle.std.specs.Prelude.{ℕ, ◌+◌, ◌-◌, ◌≤◌, ◌<◌, ◌≡◌, ◌↔◌, ◌⊎◌, List, [], true, false, ℤ, pos, length, get_or, None, Ok, Err}
use Rattle.answers.specs.declared.Refusal.{Refusal}
use Rattle.answers.specs.Order.{judged}
use Rattle.answers.specs.Causes.{refusal}
use Rattle.rates.specs.Rates.{is_rate}
use Rattle.rates.specs.Day.{day_frames}
use Rattle.timecodes.specs.declared.kinds.Kind.TheVariants.{Position}
use Rattle.reading.specs.For.{label_for}
use Rattle.reading.specs.Positions.{DayText}
use Rattle.reading.specs.LabelOnly.{LabelsOwn}
use Rattle.router.specs.Directory.{InShard, Rules, is_directory, directory_when}
use Rattle.router.specs.Query.{range_of}
use Rattle.router.specs.Route.{Common, asked_span, route_of}
use Rattle.router.specs.Halving.{halved_span, found_in}
use Rattle.router.specs.Tested.{directory_of, verdict_of, routed_in}

-- ---- the refusals, in their order
-- what the test of a directory passes keeps the rules, and what keeps them passes
abbrev pub RulesTested : Type 0
RulesTested = (day : ℕ) (firsts ends : List ℕ) → (is_directory day firsts ends ≡ true) ↔ Rules day firsts ends

-- 6 exactly when there is no such rate
abbrev pub RefusedSix : Type 0
RefusedSix =
    (rate : ℕ) (firsts ends : List ℕ) (z : ℤ) (text : List ℕ)
    → (route_of rate firsts ends z text ≡ Err (refusal 6)) ↔ (is_rate rate ≡ false)

-- the rate is one, and the directory keeps its rules at it
pub record Good (rate : ℕ) (firsts ends : List ℕ) : Type 0 where
  pub rated : is_rate rate ≡ true
  pub rules : Rules (day_frames rate) firsts ends

-- the test of a directory passes exactly such a one, and refuses any other 6 or 16
pub record DirectoryChecked : Type 0 where
  pub passed : (rate : ℕ) (firsts ends : List ℕ) → (judged (directory_when rate firsts ends) ≡ (Ok tt)) ↔ Good rate firsts ends
  pub six : (rate : ℕ) (firsts ends : List ℕ) → (judged (directory_when rate firsts ends) ≡ Err (refusal 6)) ↔ (is_rate rate ≡ false)
  pub sixteen : (rate : ℕ) (firsts ends : List ℕ)
      → (judged (directory_when rate firsts ends) ≡ Err (refusal 16)) ↔ ((is_rate rate ≡ true) × (¬ Rules (day_frames rate) firsts ends))

-- 16 exactly when the directory breaks a rule
abbrev pub RefusedSixteen : Type 0
RefusedSixteen =
    (rate : ℕ) (firsts ends : List ℕ) (z : ℤ) (text : List ℕ)
    → (route_of rate firsts ends z text ≡ Err (refusal 16)) ↔ ((is_rate rate ≡ true) × (¬ Rules (day_frames rate) firsts ends))

-- then the label's own, with its number (1, 2, 14 or 3) and place: what a text is refused where only a position's label may stand
abbrev pub RefusedByLabel : Type 0
RefusedByLabel =
    (rate : ℕ) (firsts ends : List ℕ) (z : ℤ) (text : List ℕ) (e : Refusal) → LabelsOwn e
    → (route_of rate firsts ends z text ≡ Err e) ↔ (Good rate firsts ends × (label_for Position text rate ≡ Err e))

-- a length from 0 to 400,000,000
abbrev pub LengthOf : ℤ → (n : ℕ) → Type 0
LengthOf z n = (z ≡ pos n) × (n ≤ 400000000)

-- the label is a position's, and the length is outside its bounds
pub record BadLength (rate : ℕ) (firsts ends : List ℕ) (z : ℤ) (text : List ℕ) : Type 0 where
  pub good : Good rate firsts ends
  pub start : ℕ
  pub label : DayText text None rate start
  pub outside : (n : ℕ) → ¬ LengthOf z n

-- 5 exactly when the length is outside 0 to 400,000,000
abbrev pub RefusedFive : Type 0
RefusedFive =
    (rate : ℕ) (firsts ends : List ℕ) (z : ℤ) (text : List ℕ)
    → (route_of rate firsts ends z text ≡ Err (refusal 5)) ↔ BadLength rate firsts ends z text

-- the frame that a query starts at, the count of its label, and its length
pub record Asks (rate : ℕ) (firsts ends : List ℕ) (z : ℤ) (text : List ℕ) (start n : ℕ) : Type 0 where
  pub good : Good rate firsts ends
  pub label : DayText text None rate start
  pub of_length : LengthOf z n

-- start plus length is beyond the day; one that ends with the day is not
pub record PastDay (rate : ℕ) (firsts ends : List ℕ) (z : ℤ) (text : List ℕ) : Type 0 where
  pub start : ℕ
  pub n : ℕ
  pub asks : Asks rate firsts ends z text start n
  pub past : day_frames rate < start + n

-- 17 exactly when start plus length is beyond the day
abbrev pub RefusedSeventeen : Type 0
RefusedSeventeen =
    (rate : ℕ) (firsts ends : List ℕ) (z : ℤ) (text : List ℕ)
    → (route_of rate firsts ends z text ≡ Err (refusal 17)) ↔ PastDay rate firsts ends z text

-- no other number is given
abbrev pub NumbersGiven : Type 0
NumbersGiven =
    (rate : ℕ) (firsts ends : List ℕ) (z : ℤ) (text : List ℕ) (e : Refusal) → route_of rate firsts ends z text ≡ Err e
    → LabelsOwn e ⊎ ((e ≡ refusal 6) ⊎ ((e ≡ refusal 16) ⊎ ((e ≡ refusal 5) ⊎ (e ≡ refusal 17))))

-- ---- the shards
-- a query that is refused nothing: where it starts, how long it is, and that it ends by the end of the day
pub record Query (rate : ℕ) (firsts ends : List ℕ) (z : ℤ) (text : List ℕ) (start n : ℕ) : Type 0 where
  pub asks : Asks rate firsts ends z text start n
  pub within : start + n ≤ day_frames rate

-- shard i is one of those from the first up to the one after the last
abbrev pub Between : (first after i : ℕ) → Type 0
Between first after i = (first ≤ i) × (i < after)

-- each shard of the directory is among them exactly when some frame lies both in it and in the range; where there is none, both are 0
pub record Exactly (firsts ends : List ℕ) (start end first after : ℕ) : Type 0 where
  pub inside : after ≤ length firsts
  pub asked : (i : ℕ) → i < length firsts → Between first after i ↔ ((frame : ℕ) × Common firsts ends start end i frame)
  pub none : after ≤ first → (first ≡ 0) × (after ≡ 0)

-- shards are answered exactly for such a query, and they are exactly those; so no two answers are allowed
abbrev pub RouteExactly : Type 0
RouteExactly =
    (rate : ℕ) (firsts ends : List ℕ) (z : ℤ) (text : List ℕ) (first after : ℕ)
    → (route_of rate firsts ends z text ≡ shards first after)
    ↔ ((start : ℕ) × ((n : ℕ) × (Query rate firsts ends z text start n × Exactly firsts ends start (start + n) first after)))

-- a shard is pruned exactly when no frame lies both in it and in the query
abbrev pub PrunedExactly : Type 0
PrunedExactly =
    (rate : ℕ) (firsts ends : List ℕ) (z : ℤ) (text : List ℕ) (start n first after : ℕ) → Query rate firsts ends z text start n
    → route_of rate firsts ends z text ≡ shards first after → (i : ℕ) → i < length firsts
    → (¬ Between first after i) ↔ ((frame : ℕ) → ¬ Common firsts ends start (start + n) i frame)

-- length 0 prunes all
abbrev pub NothingAsked : Type 0
NothingAsked =
    (rate : ℕ) (firsts ends : List ℕ) (text : List ℕ) (start : ℕ) → Query rate firsts ends (pos 0) text start 0
    → route_of rate firsts ends (pos 0) text ≡ shards 0 0

-- the asked shards stand together: one between two that have a frame in common with the range has one too
abbrev pub Together : Type 0
Together =
    (day : ℕ) (firsts ends : List ℕ) (start end i k j : ℕ) → Rules day firsts ends → i ≤ k → k ≤ j → j < length firsts
    → (frame : ℕ) × Common firsts ends start end i frame → (frame : ℕ) × Common firsts ends start end j frame
    → (frame : ℕ) × Common firsts ends start end k frame

-- the end frame: a shard that begins at the query's exclusive end is not asked, and one that holds the frame before that end is asked
abbrev pub EndFrame : Type 0
EndFrame =
    (rate : ℕ) (firsts ends : List ℕ) (z : ℤ) (text : List ℕ) (start n first after : ℕ) → Query rate firsts ends z text start n
    → route_of rate firsts ends z text ≡ shards first after → (i : ℕ) → i < length firsts
    → (get_or firsts i 0 ≡ start + n → ¬ Between first after i) × (0 < n → InShard firsts ends i (start + n - 1) → Between first after i)

-- ---- how they are found
-- a query's range begins at its label's count and goes as far as its length
abbrev pub RangeIs : Type 0
RangeIs =
    (rate : ℕ) (z : ℤ) (text : List ℕ) (start end : ℕ) → is_rate rate ≡ true
    → (range_of rate z text ≡ frames start end)
    ↔ (DayText text None rate start × ((n : ℕ) × (LengthOf z n × ((end ≡ start + n) × (end ≤ day_frames rate)))))

-- it is refused what a query of a directory without shards is refused: 6, the label's own, 5 and 17
abbrev pub RangeRefused : Type 0
RangeRefused =
    (rate : ℕ) (z : ℤ) (text : List ℕ) (e : Refusal) → (range_of rate z text ≡ Err e) ↔ (route_of rate [] [] z text ≡ Err e)

-- in a directory that keeps its rules halving finds what walking along the shards finds
abbrev pub HalvesWalk : Type 0
HalvesWalk =
    (day : ℕ) (firsts ends : List ℕ) (start end : ℕ) → Rules day firsts ends → halved_span start end firsts ends ≡ asked_span start end firsts ends

-- so what is found by halving in a good directory is what is answered
abbrev pub FoundByHalving : Type 0
FoundByHalving =
    (rate : ℕ) (firsts ends : List ℕ) (z : ℤ) (text : List ℕ) → Good rate firsts ends
    → found_in firsts ends (range_of rate z text) ≡ route_of rate firsts ends z text

-- a directory that is tested once answers every query as one that is tested each time
abbrev pub TestedOnce : Type 0
TestedOnce =
    (rate : ℕ) (firsts ends : List ℕ) (z : ℤ) (text : List ℕ)
    → routed_in (directory_of rate firsts ends) z text ≡ route_of rate firsts ends z text

-- and tells what its test gave
abbrev pub VerdictKept : Type 0
VerdictKept = (rate : ℕ) (firsts ends : List ℕ) → verdict_of (directory_of rate firsts ends) ≡ judged (directory_when rate firsts ends)
