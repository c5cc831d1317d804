-- The worked cases of the router: rows of a single table, under one statement.
-- Assumes nothing.
use Rattle.router.specs.Found.{shards}
use Rattle.answers.specs.declared.Refusal.{Refusal}
use Rattle.router.specs.declared.Shards.{Shards}
use Rattle.std.specs.Prelude.{ℕ, zero, suc, ◌≡◌, List, [], ◌∷◌, ℤ, pos, negsuc, Err, Result}
use Prim.Native.String.{String}
use Rattle.laws.specs.Spelt.{spelt}
use Rattle.answers.specs.Causes.{refusal}
use Rattle.answers.specs.Refusals.{at_place}
use Rattle.router.specs.Route.{route_of}

-- a row: a rate, the shards' firsts and ends, a length, a label, and what is answered
pub data Case : Type 0 where
  row : (rate : ℕ) (firsts ends : List ℕ) (length : ℤ) (label : String) → Result Shards Refusal → Case

abbrev pub Holds : Case → Type 0
Holds (row rate firsts ends length label answer) = route_of rate firsts ends length (spelt label) ≡ answer

abbrev pub All : List Case → Type 0
All [] = Unit {0}
All (c ∷ cs) = Holds c × All cs

-- three shards of a day at 29.97 drop: the first two touch, behind them is a gap
abbrev pub three_firsts : List ℕ
three_firsts = 0 ∷ 1800 ∷ 5000 ∷ []

abbrev pub three_ends : List ℕ
three_ends = 1800 ∷ 3598 ∷ 6000 ∷ []

-- the end frame on both sides of a border and of a gap, length 0, and the day's last frame
abbrev pub asked_cases : List Case
asked_cases =
    row 5 three_firsts three_ends (pos 1) "00:00:59;29" (shards 0 1)
    ∷ row 5 three_firsts three_ends (pos 2) "00:00:59;29" (shards 0 2)
    ∷ row 5 three_firsts three_ends (pos 1) "00:01:00;02" (shards 1 2)
    ∷ row 5 three_firsts three_ends (pos 1798) "00:01:00;02" (shards 1 2)
    ∷ row 5 three_firsts three_ends (pos 1402) "00:02:00;02" (shards 0 0)
    ∷ row 5 three_firsts three_ends (pos 1403) "00:02:00;02" (shards 2 3)
    ∷ row 5 three_firsts three_ends (pos 6000) "0" (shards 0 3)
    ∷ row 5 three_firsts three_ends (pos 0) "00:00:10;00" (shards 0 0)
    ∷ row 5 three_firsts three_ends (pos 1) "23:59:59;29" (shards 0 0)
    ∷ row 5 (0 ∷ []) (2589408 ∷ []) (pos 2589408) "00:00:00;00" (shards 0 1)
    ∷ row 5 (2589407 ∷ []) (2589408 ∷ []) (pos 1) "23:59:59;29" (shards 0 1)
    ∷ row 2 [] [] (pos 100) "01:00:00:00" (shards 0 0)
    ∷ []

-- the refusals in their order, each before those that hold too
abbrev pub refused_cases : List Case
refused_cases =
    row 13 (5 ∷ []) (5 ∷ []) (negsuc 0) "x" (Err (refusal 6))
    ∷ row 5 (5 ∷ []) (5 ∷ []) (negsuc 0) "x" (Err (refusal 16))
    ∷ row 5 (0 ∷ 99 ∷ []) (100 ∷ 200 ∷ []) (pos 1) "0" (Err (refusal 16))
    ∷ row 5 (100 ∷ 0 ∷ []) (200 ∷ 100 ∷ []) (pos 1) "0" (Err (refusal 16))
    ∷ row 5 (0 ∷ []) (2589409 ∷ []) (pos 1) "0" (Err (refusal 16))
    ∷ row 5 (0 ∷ 100 ∷ []) (100 ∷ []) (pos 1) "0" (Err (refusal 16))
    ∷ row 5 (0 ∷ []) (100 ∷ 200 ∷ []) (pos 1) "0" (Err (refusal 16))
    ∷ row 5 three_firsts three_ends (negsuc 0) "1+00" (Err (at_place (refusal 1) 1))
    ∷ row 5 three_firsts three_ends (negsuc 0) "00:01:00;0x" (Err (at_place (refusal 1) 10))
    ∷ row 5 three_firsts three_ends (negsuc 0) "0:0000000001" (Err (at_place (refusal 2) 2))
    ∷ row 5 three_firsts three_ends (negsuc 0) "24:01:00;00" (Err (refusal 14))
    ∷ row 5 three_firsts three_ends (negsuc 0) "-00:00:00;01" (Err (refusal 14))
    ∷ row 5 three_firsts three_ends (negsuc 0) "00:01:00;00" (Err (refusal 3))
    ∷ row 5 three_firsts three_ends (negsuc 0) "23:59:59;29" (Err (refusal 5))
    ∷ row 5 three_firsts three_ends (pos 400000001) "0" (Err (refusal 5))
    ∷ row 5 three_firsts three_ends (pos 400000000) "0" (Err (refusal 17))
    ∷ row 5 three_firsts three_ends (pos 2) "23:59:59;29" (Err (refusal 17))
    ∷ row 11 [] [] (pos 5178816) "1" (Err (refusal 17))
    ∷ []

-- n shards of a frame each, from a frame on: their firsts, and from one later their ends
abbrev pub count_up : (from n : ℕ) → List ℕ
count_up from zero = []
count_up from (suc n) = from ∷ count_up (suc from) n

-- 256 shards are a directory, and 257 are none
abbrev pub most_cases : List Case
most_cases =
    row 2 (count_up 0 256) (count_up 1 256) (pos 1) "10:15" (shards 255 256)
    ∷ row 2 (count_up 0 257) (count_up 1 257) (pos 1) "10:15" (Err (refusal 16))
    ∷ []

-- each row holds
abbrev pub RouteCases : Type 0
RouteCases = All asked_cases × All refused_cases × All most_cases
