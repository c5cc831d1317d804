-- What holds of longest beginnings (BEHAVIOUR: Places), whatever the shape. Proofs: proofs/Statements.antt.
-- Assumes nothing.
use Rattle.std.specs.Prelude.{ℕ, max, ◌≡◌, List}
use Rattle.beginnings.specs.Beginning.{LongestBeginning, Either}

-- a text has one longest beginning
abbrev pub OneLongest : Type 1
OneLongest =
    (Shape : List ℕ → Type 0) (l : List ℕ) (m n : ℕ) → LongestBeginning Shape l m → LongestBeginning Shape l n → m ≡ n

-- where two shapes are allowed, it is the longer of theirs
abbrev pub LongestOfEither : Type 1
LongestOfEither =
    (Shape Other : List ℕ → Type 0) (l : List ℕ) (m n : ℕ) → LongestBeginning Shape l m → LongestBeginning Other l n
    → LongestBeginning (Either Shape Other) l (max m n)
