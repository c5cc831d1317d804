-- A directory that is tested once and asked many times (BEHAVIOUR: Router).
-- Assumes nothing.
use Rattle.router.specs.declared.Shards.{Shards}
use Rattle.answers.specs.declared.Refusal.{Refusal}
use Rattle.std.specs.Prelude.{ℕ, min, List, ℤ, length, take, replicate, Result, Ok, Err}
use Rattle.std.proofs.Math.Seq.{paste}
use Rattle.answers.specs.Order.{judged}
use Rattle.router.specs.declared.many.Directory.{Directory}
use Rattle.router.specs.Directory.{directory_when}
use Rattle.router.specs.Query.{range_of}
use Rattle.router.specs.Halving.{found_in}

-- the first n numbers of a list, zeros behind them up to 256
unfoldable pub copied : (n : ℕ) → List ℕ → List ℕ
copied n l = paste (replicate 256 0) 0 l n

-- up to 256 numbers of a list
abbrev pub kept_of : List ℕ → List ℕ
kept_of l = copied (min 256 (length l)) l

-- the directory that is kept: what its test gave, and its shards
unfoldable pub directory_of : (rate : ℕ) (firsts ends : List ℕ) → Directory
directory_of rate firsts ends = record {
  verdict = judged (directory_when rate firsts ends);
  rate = rate;
  shards = length firsts;
  firsts = kept_of firsts;
  ends = kept_of ends;
}

-- what its test gave
abbrev pub verdict_of : Directory → Result (Unit {0}) Refusal
verdict_of d = d.verdict

-- behind what its test gave, the search in what is kept
abbrev pub routed_by : Directory → (length : ℤ) (text : List ℕ) → Result (Unit {0}) Refusal → Result Shards Refusal
routed_by d length text (Ok tt) = found_in (take d.shards d.firsts) (take d.shards d.ends) (range_of d.rate length text)
routed_by d length text (Err e) = Err e

unfoldable pub routed_in : Directory → (length : ℤ) (text : List ℕ) → Result Shards Refusal
routed_in d length text = routed_by d length text (verdict_of d)
