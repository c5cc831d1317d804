-- Records in words are listed as the grammar has them, and only so. Proofs: proofs/Statements.antt.
-- Assumes nothing.
use Rattle.std.specs.Prelude.{ℕ, ◌≤◌, ◌≡◌, List, ◌++◌, true, ℤ, length, take, drop}
use Rattle.asking.specs.Numbered.{Listing}
use Rattle.asking.specs.RecordWords.{records_of}
use Rattle.asking.specs.Grammar.{RecordWords}

-- all of them, at the list's front; what stands behind them stays
abbrev pub listed_as : (numbers list : List ℤ) → Listing ℤ
listed_as zs list = record { list = zs ++ drop (length zs) list; listed = record { all = true; count = length zs } }

-- the rest of the line is records, which have room, and they are listed so
pub record AreListed (line : List ℕ) (from : ℕ) (list numbers : List ℤ) : Type 0 where
  pub words : RecordWords (drop from line) numbers
  pub room : length numbers ≤ length list
  pub is : records_of line from list ≡ listed_as numbers list

-- records of the grammar that have room are listed, all of them; and where all is listed, the rest of the line is such records, and the
-- list's front is their kinds and numbers
abbrev pub RecordsExactly : Type 0
RecordsExactly =
    (line : List ℕ) (from : ℕ) (list : List ℤ)
    → let x = records_of line from list in
    ((zs : List ℤ) → RecordWords (drop from line) zs → length zs ≤ length list → x ≡ listed_as zs list)
    × (x.listed.all ≡ true → AreListed line from list (take x.listed.count x.list))
